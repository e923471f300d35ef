use Rattle.std.proofs.Common.{◌≡◌, ℕ, Bool, Result, Ok, Err, MatchResult}
use Rattle.std.specs.Prelude.{IfOk, IfErr, IsTrue}
use Rattle.disk.specs.Areas.{AreSound, LeavesNoMore, image_of}
use Rattle.disk.specs.Calls.{DiskState}
use Rattle.history.specs.Histories.{History}
use Rattle.law_image.specs.Values.{Value}
use Rattle.recovery.specs.Faults.{IsReadFault}
use Rattle.recovery.specs.declared.fault.OpenFault.{OpenFault}
use Rattle.recovery.specs.Settling.{Settles, CountsMore, CountsAtMost}
use Rattle.any_store.specs.Values.{StoreValue, disk_of}
use Rattle.any_store.specs.Opens.{Opens, OpenRefuses}
use Rattle.law_any_store.specs.Standing.{Stands, AnyHeader, IsImageOf, opened_in}
use Rattle.law_any_store.proofs.Opened.{open-stands_in}
use Rattle.law_any_store.proofs.Reopened.{open-refuses, opens-made, opens-moments, opens-left, refuses-made, refuses-moments, refuses-left}
use Rattle.run.proofs.opening.open.Goals as goal

module _ {S : Type 0} (tells : Bool) (state : S → DiskState) (old : DiskState) (mark : ℕ) where
  by-result : (r : Result StoreValue (OpenFault × S)) → IfOk r (λ s. Opens tells old mark s) → IfErr r (λ e. OpenRefuses tells old e.0 (state e.1))
      → (header : AnyHeader) (h : History Value) (floors : ℕ → ℕ) → IsTrue tells → AreSound old.areas → IsImageOf header (image_of old.areas) h floors
      → MatchResult r (λ s. Stands tells s (opened_in s h floors)) (λ e. IsReadFault e.0 × (image_of (state e.1).areas ≡ image_of old.areas))
  by-result (Ok s) ok err header h floors told sound is = open-stands_in tells old mark s header h floors ok told sound is
  by-result (Err e) ok err header h floors told sound is =
      let said = open-refuses tells old (state e.1) e.0 header h floors err told is in (said.0, said.1)

  leaves-no-more : (r : Result StoreValue (OpenFault × S)) → IfOk r (λ s. Opens tells old mark s) → IfErr r (λ e. OpenRefuses tells old e.0 (state e.1))
      → IsTrue tells
      → MatchResult r (λ s. LeavesNoMore old.areas (disk_of s).areas) (λ e. LeavesNoMore old.areas (state e.1).areas)
  leaves-no-more (Ok s) ok err told = opens-left tells old mark s ok told
  leaves-no-more (Err e) ok err told = refuses-left tells old (state e.1) e.0 err told

  counts : (r : Result StoreValue (OpenFault × S)) → IfOk r (λ s. Opens tells old mark s) → IfErr r (λ e. OpenRefuses tells old e.0 (state e.1))
      → MatchResult r (λ s. CountsMore 3 old (disk_of s)) (λ e. CountsAtMost 3 old (state e.1))
  counts (Ok s) ok err = opens-made tells old mark s ok
  counts (Err e) ok err = refuses-made tells old (state e.1) e.0 err

  settles : (r : Result StoreValue (OpenFault × S)) → IfOk r (λ s. Opens tells old mark s) → IfErr r (λ e. OpenRefuses tells old e.0 (state e.1))
      → MatchResult r (λ s. Settles tells old (disk_of s)) (λ e. Settles tells old (state e.1))
  settles (Ok s) ok err = opens-moments tells old mark s ok
  settles (Err e) ok err = refuses-moments tells old (state e.1) e.0 err

pub returns-clause-stands : goal.returns-clause-stands
returns-clause-stands g c =
    λ header h floors told is. by-result g.D.Disk.tells g.D.Disk.state (g.D.Disk.state c.args.disk) c.args.mark c.open.result c.open.ensures.ok
    c.open.ensures.err header h floors told (g.met.D.Disk.sound c.args.disk told) is

pub returns-clause-stops : goal.returns-clause-stops
returns-clause-stops g c =
    leaves-no-more g.D.Disk.tells g.D.Disk.state (g.D.Disk.state c.args.disk) c.args.mark c.open.result c.open.ensures.ok c.open.ensures.err

pub returns-clause-made : goal.returns-clause-made
returns-clause-made g c = counts g.D.Disk.tells g.D.Disk.state (g.D.Disk.state c.args.disk) c.args.mark c.open.result c.open.ensures.ok c.open.ensures.err

pub returns-clause-moments : goal.returns-clause-moments
returns-clause-moments g c = settles g.D.Disk.tells g.D.Disk.state (g.D.Disk.state c.args.disk) c.args.mark c.open.result c.open.ensures.ok c.open.ensures.err
