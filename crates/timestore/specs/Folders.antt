-- Folders whose files are not opened.
use Rattle.std.specs.Prelude.{◌≡◌, ◌⊎◌, ◌≤◌, List, ℕ, Option, Some, None, codes}
use Rattle.std.specs.IoError.{error_kind}
use Rattle.std.specs.declared.io.ErrorKind.TheVariants.{NotFound}
use Rattle.disk_file.specs.declared.fault.FolderFault.{FolderFault}
use Rattle.disk_file.specs.declared.fault.FolderFault.TheVariants.{Missing, InUse, System, NoMemory}

-- the folder lacks a file of a store
abbrev pub LacksFile : FolderFault → Type 0
LacksFile (Missing path cause) = Unit {0}
LacksFile (InUse path) = 1 ≤ 0
LacksFile (System path cause) = 1 ≤ 0
LacksFile NoMemory = 1 ≤ 0

abbrev pub no_store : List ℕ
no_store = codes "no store was made in this folder; `timestore format DIR` makes one"

abbrev pub no_folder : List ℕ
no_folder = codes "there is no such folder; `mkdir DIR` makes one, and `timestore format DIR` a store in it"

-- what to do about a folder that lacks a file, and about one that is not there
abbrev pub IsAdvised : Option (List ℕ) → FolderFault → Type 0
IsAdvised advice (Missing path cause) = advice ≡ Some no_store
IsAdvised advice (System path cause) = ((error_kind cause ≡ NotFound) × (advice ≡ Some no_folder)) ⊎ (¬ (error_kind cause ≡ NotFound) × (advice ≡ None))
IsAdvised advice _ = advice ≡ None
