-- Records in loans.
use Rattle.law_image.specs.Facts.{mask_of, changed_of}
use Rattle.deltas.specs.declared.«record».Content.{Content}
use Rattle.deltas.specs.declared.«record».Content.TheVariants.{Anchor, Delta, Gone, Old}
use Rattle.deltas.specs.declared.«record».Record.{Record}
use Rattle.deltas.specs.declared.record_ref.ContentRef.{ContentRef}
use Rattle.deltas.specs.declared.record_ref.ContentRef.TheVariants as loan
use Rattle.deltas.specs.declared.record_ref.RecordRef.{RecordRef}

-- what the loan shows
abbrev pub content_of_loan : ContentRef → Content
content_of_loan (loan.Anchor value) = Anchor value.now
content_of_loan (loan.Delta mask changed) = Delta mask changed.now
content_of_loan (loan.Changed old new) = Delta (mask_of old.now new.now) (changed_of old.now new.now)
content_of_loan loan.Gone = Gone
content_of_loan (loan.Old from value) = Old from value.now

-- the record that the loan shows
abbrev pub record_of_loan : RecordRef → Record
record_of_loan r = record { key = r.key; content = content_of_loan r.content }
