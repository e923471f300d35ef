-- An archive goes on, and has what views read of it.
use Rattle.std.proofs.Common.{◌≡◌, ℕ, ◌+◌, ◌≤◌, ◌++◌, Bool, List, [], ◌∷◌, length, refl, sym, ap, ◌∙◌, arith, append_assoc}
use Rattle.std.proofs.lemmas.List.{append-nil}
use Rattle.disk.specs.Parts.{HoldsPart}
use Rattle.archive.specs.declared.run.RunEntry.{RunEntry}
use Rattle.history.specs.Histories.{History}
use Rattle.law_image.specs.Values.{Value}
use Rattle.timequery.specs.View.{ViewValue}
use Rattle.timequery.specs.Archives.{is_front}
use Rattle.any_store.specs.declared.engine.Engine.TheVariants.{Slots, Log}
use Rattle.any_store.specs.Values.{StoreValue, commits_of}
use Rattle.law_refinement.specs.Homes.{KeepsUpTo}
use Rattle.law_log_queries.specs.Archive.{end_of}
use Rattle.law_log_queries.proofs.Runs.{ends-all, end-more}
use Rattle.law_any_store.specs.Standing.{ViewReads, GoesOn}
use Rattle.law_refinement.proofs.RunsKept.{up_to-same, runs-held, ends-later}
use Rattle.law_refinement.proofs.RunsStep.{front-more, front-ends}
use Rattle.shared.specs.Archives.{ArchiveSeen, IsArchiveLater, ReadsArchive, archive_seen, no_archive}
use Rattle.shared.specs.Seen.{Known, IsMore, nothing_known}
use Rattle.shared.proofs.Fronts.{later-same, later-then, later-nothing}

-- ---- what stands of the bytes

up_to-then : (first second : ℕ) (a b c : List ℕ) → first ≤ second → KeepsUpTo first a b → KeepsUpTo second b c → KeepsUpTo first a c
up_to-then first second a b c le x y = λ at part low held. y at part (omega arith) (x at part low held)

-- a part that ends at the beginning is empty, and stands anywhere
up_to-none : (bytes : List ℕ) → KeepsUpTo 0 [] bytes
up_to-none bytes = λ at part low held. empty at part low
  where
    empty : (at : ℕ) (part : List ℕ) → at + length part ≤ 0 → HoldsPart at part bytes
    empty at [] low = record { inside = omega arith; is = let zero_is : at ≡ 0 = omega arith in rw zero_is refl }
    empty at (x ∷ xs) low = absurd (omega arith)

-- ---- archives go on

pub archive-same : (a : ArchiveSeen) → IsArchiveLater a a
archive-same a = record { tells = λ told. told; more = []; runs = sym (append-nil a.runs); end = λ told. omega arith; bytes = λ told. up_to-same a.end a.bytes }

pub archive-then : (a b c : ArchiveSeen) → IsArchiveLater a b → IsArchiveLater b c → IsArchiveLater a c
archive-then a b c x y = record {
  tells = λ told. x.tells (y.tells told);
  more = x.more ++ y.more;
  runs = y.runs ∙ ap (λ (l : List RunEntry). l ++ y.more) x.runs ∙ append_assoc a.runs x.more y.more;
  end = λ told. let first = x.end (y.tells told) in let second = y.end told in omega arith;
  bytes = λ told. up_to-then a.end b.end a.bytes b.bytes c.bytes (x.end (y.tells told)) (x.bytes (y.tells told)) (y.bytes told);
}

pub archive-first : (a : ArchiveSeen) → IsArchiveLater no_archive a
archive-first a = record { tells = λ told. refl; more = a.runs; runs = refl; end = λ told. omega arith; bytes = λ told. up_to-none a.bytes }

-- that of a store whose views go on
pub archive-on : (tells : Bool) (old new : StoreValue) → GoesOn tells old new → IsArchiveLater (archive_seen tells old) (archive_seen tells new)
archive-on tells (Slots s) (Slots s') goes = record { tells = λ told. told; more = goes.more; runs = goes.runs; end = goes.end; bytes = goes.bytes }
archive-on tells (Slots s) (Log l') goes = absurd goes
archive-on tells (Log l) (Slots s') goes = absurd goes
archive-on tells (Log l) (Log l') goes = record {
  tells = λ told. told;
  more = goes.more;
  runs = goes.runs;
  end = λ told. let later = end-more l.archive.runs goes.more in let is = ap end_of goes.runs in omega (arith, later, is);
  bytes = goes.bytes;
}

-- ---- what is known goes on

pub more-same : (k : Known) → IsMore k k
more-same k = record { seen = later-same k.seen; archive = archive-same k.archive }

pub more-then : (a b c : Known) → IsMore a b → IsMore b c → IsMore a c
more-then a b c x y = record { seen = later-then a.seen b.seen c.seen x.seen y.seen; archive = archive-then a.archive b.archive c.archive x.archive y.archive }

pub more-nothing : (k : Known) → IsMore nothing_known k
more-nothing k = record { seen = later-nothing k.seen; archive = archive-first k.archive }

-- ---- what views read

pub reads-taken : (tells : Bool) (v : StoreValue) (view : ViewValue) (h : History Value) (floors : ℕ → ℕ) → ViewReads tells v view h floors
    → ReadsArchive (archive_seen tells v) view h floors
reads-taken tells (Slots s) view h floors reads = record {
  front = reads.front;
  runs = λ told. let r = reads.runs told in record { lists = r.lists; held = r.held; ends = r.ends; marks = r.marks; archived = r.archived };
}
reads-taken tells (Log l) view h floors reads = record {
  front = reads.front;
  runs =
      λ told. let r = reads.runs told in record {
        lists = r.lists;
        held = r.held;
        ends = front-ends (end_of l.archive.runs) view.runs l.archive.runs reads.front (ends-all l.archive.runs);
        marks = r.marks;
        archived = r.archived;
      };
}

pub reads-later : (old new : ArchiveSeen) (view : ViewValue) (h : History Value) (floors : ℕ → ℕ) → IsArchiveLater old new → ReadsArchive old view h floors
    → ReadsArchive new view h floors
reads-later old new view h floors later reads = record {
  front = ap (is_front view.runs) later.runs ∙ front-more view.runs old.runs later.more reads.front;
  runs = λ told.
      let r = reads.runs (later.tells told) in record {
        lists = r.lists;
        held = runs-held old.end old.bytes new.bytes view.runs r.lists (later.bytes told) r.ends r.held;
        ends = ends-later old.end new.end view.runs (later.end told) r.ends;
        marks = r.marks;
        archived = r.archived;
      };
}

-- a store with this archive answers such a view of its own
pub reads-of : (tells : Bool) (v : StoreValue) (view : ViewValue) (h : History Value) (floors : ℕ → ℕ) → view.mark ≡ (commits_of v).mark
    → ReadsArchive (archive_seen tells v) view h floors → ViewReads tells v view h floors
reads-of tells (Slots s) view h floors mark reads = record {
  mark = mark;
  front = reads.front;
  runs = λ told. let r = reads.runs told in record { lists = r.lists; held = r.held; ends = r.ends; marks = r.marks; archived = r.archived };
}
reads-of tells (Log l) view h floors mark reads = record {
  mark = mark;
  front = reads.front;
  runs = λ told. let r = reads.runs told in record { lists = r.lists; held = r.held; marks = r.marks; archived = r.archived };
}
