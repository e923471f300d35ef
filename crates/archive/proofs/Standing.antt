-- The value that stands at a time, among the records of a run.
use Rattle.std.proofs.Common.{◌≡◌, ℕ, Bool, true, false, cond, ◌&&◌, List, [], ◌∷◌, Some, None, refl}
use Rattle.std.specs.Prelude.{option_map}
use Rattle.std.specs.List.{find, cons_option}
use Rattle.history.specs.declared.key.Key.{Key}
use Rattle.history.specs.declared.time.Version.{Version}
use Rattle.history.specs.Key.{same_key}
use Rattle.history.specs.Versions.{stands_at, standing_at}
use Rattle.law_image.specs.Values.{Value}
use Rattle.law_image.specs.Reading.{ArchiveRecord}
use Rattle.law_image.specs.Facts.{run_versions}
use Rattle.archive.proofs.Orders.{stands_for}

pub standing_is : (key : Key) (time : ℕ) (records : List ArchiveRecord)
    → option_map (λ r. r.version.value) (find (stands_for key time) records) ≡ standing_at (run_versions key records) time
standing_is key time [] = refl
standing_is key time (r ∷ rs) =
    let value_of : ArchiveRecord → Value = λ s. s.version.value in
    let value_in : Version Value → Value = λ v. v.value in
    let rest = standing_is key time rs in
    let ByTime : Bool → Type 0 =
    λ c. option_map value_of (cond c (Some r) (find (stands_for key time) rs))
    ≡ option_map value_in (cond c (Some r.version) (find (stands_at time) (run_versions key rs))) in
    let ByKey : Bool → Type 0 = λ b. option_map value_of (cond (b && stands_at time r.version) (Some r) (find (stands_for key time) rs))
    ≡ standing_at (cons_option (cond b (Some r.version) None) (run_versions key rs)) time in
    let here : ByTime (stands_at time r.version) = elim (stands_at time r.version) as ByTime [ true ↦ refl | false ↦ rest ] in
    elim (same_key r.key key) as ByKey [ true ↦ here | false ↦ rest ]
