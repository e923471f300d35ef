-- A group that may join the empty image: one commit of ["a"] under the key (1, 7) at 100, with the label 9.
use Rattle.std.proofs.Common.{◌≡◌, ℕ, ◌<◌, [], ◌∷◌, Some, refl, arith, lit<}
use Rattle.std.proofs.lemmas.List.Elements.{All-from_recursion}
use Rattle.std.specs.List.Sorted.{IsStrictlySortedBy}
use Rattle.history.specs.declared.key.Key.{Key}
use Rattle.history.specs.Key.{key_cmp, IsKey}
use Rattle.history.specs.Histories.{History}
use Rattle.law_image.specs.Values.{Value, IsValue}
use Rattle.law_image.specs.Reading.{Anchor, Member}
use Rattle.law_image.specs.Plans.{empty_reading}
use Rattle.wire.specs.declared.slot.Member.{Member as Entry}
use Rattle.wire.specs.declared.slot.Body.TheVariants.{Commit as Commits}
use Rattle.law_layout.specs.Extents.{Extent}
use Rattle.deltas.specs.Records.{spelling}
use Rattle.law_layout.specs.Records.{record_bytes, u16_bytes}
use Rattle.wire.specs.Spelling.{u64_bytes}
use Rattle.law_layout.specs.Layouts.{Layout}
use Rattle.law_layout.specs.Turn.{Group, MayJoin}
use Rattle.status.specs.declared.header.Header.{Header}

abbrev sixteen : Header
sixteen = record { profile = 1; slots = 16; pieces = 0 }

abbrev seven : Key
seven = record { relation = 1; «record» = 7 }

abbrev word : Value
word = (0x61 ∷ []) ∷ []

abbrev next : History Value
next = record { time = 100; label = 9; writes = record { key = seven; write = Some word } ∷ [] } ∷ []

abbrev member : Member
member = record { head = record { time = 100; label = 9 }; records = record { key = seven; content = Anchor word } ∷ [] }

abbrev entry : Entry
entry = record { label = 9; time = 100; first = 1; extents = 1; records = 1 }

abbrev extent : Extent
extent = record { number = 1; next = 0; body = 1 ∷ 1 ∷ 0 ∷ 7 ∷ 0 ∷ 0 ∷ 0 ∷ 0 ∷ 0 ∷ 0 ∷ 0 ∷ 1 ∷ 1 ∷ 0x61 ∷ [] }

abbrev group : Group
group = record {
  members = record { entry = entry; member = member; extents = extent ∷ [] } ∷ [];
  slot = record { number = 0; body = Commits (record { items = entry ∷ [] }) };
}

abbrev empty_layout : Layout
empty_layout = record { slots = []; anchors = []; members = []; runs = [] }

one_body : record_bytes (record { key = seven; content = Anchor word }) ≡ extent.body
unfolding record_bytes spelling u16_bytes u64_bytes
one_body = refl

sorted : IsStrictlySortedBy key_cmp (seven ∷ [])
unfolding IsStrictlySortedBy
sorted = (tt, tt)

is_key : IsKey seven
is_key = record { relation = lit< tt; number = lit< tt }

is_value : IsValue word
is_value =
    record {
      some = omega arith;
      few = omega arith;
      fields = (record { short = omega arith; are_bytes = All-from_recursion (λ (b : ℕ). b < 256) (0x61 ∷ []) (lit< tt, tt) }, tt);
    }

may_join : MayJoin sixteen empty_layout (empty_reading 1 16 0) [] next group
may_join = record {
  is_group = record {
    may = (
      record {
        later = omega arith;
        in_range = lit< tt;
        label = lit< tt;
        write_set = record { rising = sorted; some = omega arith; few = omega arith };
        writes = (record { key = is_key; value = is_value }, tt);
        gone = (λ e. absurd cc, tt);
      },
      tt,
    );
    facts = refl;
    some = omega arith;
    few = omega arith;
    chains = (record { rising = sorted; some = omega arith; few = omega arith }, tt);
    stored = ((record { one_spelling = refl; gone = λ e. absurd cc }, tt), tt);
  };
  room = omega arith;
  each = (
    record {
      head_is = refl;
      chain = record {
        first_is = refl;
        extents_are = refl;
        records_are = refl;
        linked = (refl, tt);
        each = (record { low = omega arith; high = omega arith; some = omega arith; fits = omega arith }, tt);
        bodies_are = rw one_body refl;
      };
      each = (
        record {
          key = is_key;
          content = is_value;
        },
        tt,
      );
    },
    tt,
  );
  named = refl;
  free = (tt, tt);
}
