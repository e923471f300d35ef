-- An image with one more piece of slots stands for the same.
use Rattle.std.proofs.Common.{ℕ, ◌≢◌, ◌≤◌, arith}
use Rattle.history.specs.Histories.{History}
use Rattle.law_image.specs.Values.{Value}
use Rattle.law_image.specs.Reading.{Reading, slot_count}
use Rattle.law_image.specs.StandsFor.{StandsFor, IsSlotLog}
use Rattle.law_image.specs.Plans.{HasSlots, with_piece}
use Rattle.law_image.proofs.Forms.{in-slots, of-slots}

pub piece-stands_for : (reading : Reading) (h : History Value) (floors : ℕ → ℕ) → StandsFor reading h floors → reading.profile ≢ 1 → HasSlots reading
    → slot_count (with_piece reading) ≤ 65536
    → StandsFor (with_piece reading) h floors
piece-stands_for reading h floors stands later slots room =
    let is : IsSlotLog reading = in-slots reading slots stands.opens.reads.form in record {
      opens = record {
        reads = record {
          form = of-slots (with_piece reading) slots (record {
            header = record {
              lowest = (is.header).lowest;
              highest = (is.header).highest;
              some = (is.header).some;
              whole = λ first. absurd (later first);
              total = room;
            };
            log = is.log;
            fits = omega (arith, is.fits);
            runs = is.runs;
          });
          members = stands.opens.reads.members;
          chains = stands.opens.reads.chains;
          stored = stands.opens.reads.stored;
          anchors = stands.opens.reads.anchors;
          anchor_times = stands.opens.reads.anchor_times;
        };
        floors_given = stands.opens.floors_given;
        history = stands.opens.history;
        commits = stands.opens.commits;
        write_sets = stands.opens.write_sets;
      };
      homes = record {
        marks = stands.homes.marks;
        in_heap = stands.homes.in_heap;
        in_archive = stands.homes.in_archive;
      };
    }
