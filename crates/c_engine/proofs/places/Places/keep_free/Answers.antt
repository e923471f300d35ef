use Rattle.std.proofs.Common.{ap, refl, ◌∙◌}
use Rattle.c_engine.specs.FreePlaces.{is_nothing}
use Rattle.c_engine.specs.declared.places.Place.{Place}
use Rattle.c_engine.proofs.Named.{kept, nothing_in, same_stamps}
use Rattle.c_engine.proofs.Chaining.{becomes_taken}
use Rattle.c_engine.proofs.places.Places.keep_free.Goals as goal

pub invariant_of-self-clause-chained : goal.invariant_of-self-clause-chained
invariant_of-self-clause-chained c =
    let place : Place = c.index_mut-place.result.now in
    let places = c.args.self.now.places.items in
    let at = c.args.self.now.free in
    let free = nothing_in places at place c.requires.free c.index_mut-place.ensures.value in
    let after : Place = record { stamp = place.stamp; held = c.replace.new.dest; next = place.next } in
    let some = ap is_nothing c.replace.ensures.after ∙ c.requires.some in
    becomes_taken places at place after free.at free.low some c.args.self.now.chained

pub returns : goal.returns
returns c =
    let place : Place = c.index_mut-place.result.now in
    let places = c.args.self.now.places.items in
    let at = c.args.self.now.free in
    let free = nothing_in places at place c.requires.free c.index_mut-place.ensures.value in
    let after : Place = record { stamp = place.stamp; held = c.replace.new.dest; next = place.next } in
    let names =
    kept c.args.self.now.tag places c.number_of.result at place after c.args.held c.number_of.ensures.tag c.number_of.ensures.place
    c.number_of.ensures.stamp free.at free.none refl c.replace.ensures.after in
    record {
      free = names.0;
      own = c.number_of.ensures.tag;
      low = c.number_of.ensures.low;
      names = names.1;
      stamps = record { stamps = same_stamps places at place after free.at refl; tag = refl };
    }
