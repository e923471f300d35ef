use Rattle.std.proofs.Common.{◌+◌, ◌<◌, ◌%◌, List, slice_set, sym, ◌∙◌, refl, arith}
use Rattle.c_engine.specs.Held.{named_in}
use Rattle.c_engine.specs.Numbers.{place_in}
use Rattle.c_engine.specs.declared.places.Place.{Place}
use Rattle.c_engine.proofs.Named.{there, written, emptied, free_here, set_here, raised_stamp}
use Rattle.c_engine.proofs.Chaining.{becomes_free, named_taken, is_free}
use Rattle.c_engine.proofs.places.Places.take.Goals as goal

pub invariant_of-self-clause-chained : goal.invariant_of-self-clause-chained
invariant_of-self-clause-chained c =
    let places : List Place = c.args.self.now.places.items in
    let number = c.args.number in
    let place : Place = c.index_mut-place.result.now in
    let after : Place = record { stamp = (place.stamp + 1) % 4294967296; held = c.replace-held.new.dest; next = c.args.self.now.free } in
    let at = there c.args.self.now.tag places number place c.requires c.index_mut-place.ensures.value in
    let low : place_in number < 65536 = omega arith in
    let named_is = written c.args.self.now.tag places number place place c.requires c.index_mut-place.ensures.value refl in
    becomes_free places c.args.self.now.free (place_in number) place after at.at low
    (named_taken (named_in c.args.self.now.tag places number) place c.requires named_is.0) (is_free c.replace-held.new.dest c.replace-held.ensures.after)
    refl
    c.args.self.now.chained

pub returns-clause-held : goal.returns-clause-held
returns-clause-held c =
    let places : List Place = c.args.self.now.places.items in
    let number = c.args.number in
    let place : Place = c.index_mut-place.result.now in
    let named_is = written c.args.self.now.tag places number place place c.requires c.index_mut-place.ensures.value refl in
    c.replace-held.ensures.value ∙ sym named_is.0

pub returns-clause-taken : goal.returns-clause-taken
returns-clause-taken c =
    let places : List Place = c.args.self.now.places.items in
    let number = c.args.number in
    let place : Place = c.index_mut-place.result.now in
    let after : Place = record { stamp = (place.stamp + 1) % 4294967296; held = c.replace-held.new.dest; next = c.args.self.now.free } in
    let at = there c.args.self.now.tag places number place c.requires c.index_mut-place.ensures.value in
    let low : place_in number < 65536 = omega arith in
    record {
      names = emptied c.args.self.now.tag places number place after c.requires c.index_mut-place.ensures.value c.replace-held.ensures.after;
      free = free_here (slice_set places (place_in number) after) (place_in number) after (set_here places (place_in number) place after at.at) low
          c.replace-held.ensures.after;
      stamps = record { stamps = raised_stamp places (place_in number) place after at.at refl; tag = refl };
    }
