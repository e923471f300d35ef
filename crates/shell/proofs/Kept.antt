-- What was said stays said when it is given out; where that is refused, the status is 1.
use Rattle.std.proofs.Common.{◌≡◌, ◌≢◌, ◌∙◌, ◌⊎◌, inl, inr, ℕ, ◌++◌, Bool, true, false, [], Option, Some, None, sym, subst, append-nil}
use Rattle.std.specs.Prelude.{MatchOption, MatchBool}
use Rattle.std.specs.Io.KnownBytes.{Appends}
use Rattle.std.proofs.KnownBytes.{Appends-kept}
use Rattle.disk.specs.Calls.{DiskState}
use Rattle.recovery.specs.declared.fault.OpenFault.{OpenFault}
use Rattle.script.specs.declared.line.Line.{Line}
use Rattle.script.specs.declared.line.Line.TheVariants as line
use Rattle.session.specs.Streams.{AppendsFront}
use Rattle.session.specs.Texts.{Text, open_line, text_of}
use Rattle.session.specs.declared.ending.Ending.{Ending}
use Rattle.session.specs.declared.ending.Ending.TheVariants.{OutputRefused, Whole}
use Rattle.session.specs.declared.reply.Reply.{Reply}
use Rattle.session.specs.declared.reply.Reply.TheVariants as reply
use Rattle.forms.specs.Styles.{is_plain, plain}
use Rattle.forms.specs.declared.style.Style.{Style}
use Rattle.shell.specs.Styled.{IsTextOf}
use Rattle.any_store.specs.Values.{StoreValue}
use Rattle.any_store.specs.declared.formatting.Layout.{Layout as StoreLayout}
use Rattle.any_store.specs.declared.formatting.Layout.TheVariants.{Slots}
use Rattle.command_line.specs.declared.layout.Layout.{Layout}
use Rattle.command_line.specs.declared.question.Question.{Question}
use Rattle.command_line.specs.declared.question.RecordWrite.{RecordWrite}
use Rattle.command_line.specs.declared.action.Action.{Action}
use Rattle.command_line.specs.declared.action.Action.TheVariants as action
use Rattle.shell.specs.Acts.{Acts, Asks, Dumps, DoesNotOpen, GivesOut, Grows, HasNoMemory, HasStatusOf, Input, IsRefused, IsSaid, IsTold, Makes}
use Rattle.shell.specs.Acts.{ByLayout, DumpsHeap, HasNoDump, HasNoInfo, Output, TellsHeap}
use Rattle.shell.specs.Layouts.{store_layout}
use Rattle.shell.specs.Acts.{RefusesProfile, RefusesTime, RefusesToMake, RunsNew, RunsScript, SaysAll, SaysArchived, SaysBoth, SaysFront, SaysGrown, SaysSlots}
use Rattle.shell.specs.Acts.{IsToldAs, IsToldIn, Raises, SaysRaised, SaysSo, SaysVacuum, Tells, Vacuums, Writes}
use Rattle.shell.specs.Asking.{line_asked}
use Rattle.shell.specs.Vacuums.{is_refusal}
use Rattle.shell.specs.declared.vacuuming.Vacuumed.{Vacuumed}
use Rattle.shell.specs.declared.vacuuming.Vacuumed.TheVariants as vacuumed

all-kept : (o v : Output) (text : Text) → GivesOut o v → SaysAll o text → SaysAll v text
all-kept o v text gives says = subst (λ (b : Option Text). Appends b v.after text) (sym gives.0) (Appends-kept o.before o.after v.after text says gives.1)

parts-kept : (o v : Output) (text : Text) → GivesOut o v → AppendsFront o.before o.after text → AppendsFront v.before v.after text
parts-kept o v text gives front = (front.0, front.1, all-kept o v front.0 gives front.2)

-- the whole is a front
whole-front : (v : Output) (text : Text) → SaysAll v text → AppendsFront v.before v.after text
whole-front v text says = (text, ([], sym (append-nil text)), says)

-- what was refused before stays refused
still : (o v : Output) → GivesOut o v → o.refused ≡ true → v.refused ≡ true
still o v gives was = by (gives.2)
  where
    by : (((v.status ≡ o.status) × (v.refused ≡ o.refused)) ⊎ ((v.status ≡ 1) × (v.refused ≡ true))) → v.refused ≡ true
    by (inl same) = same.1 ∙ was
    by (inr now) = now.1

-- a status of 1 stays
still-one : (o v : Output) → GivesOut o v → o.status ≡ 1 → v.status ≡ 1
still-one o v gives one = by (gives.2)
  where
    by : (((v.status ≡ o.status) × (v.refused ≡ o.refused)) ⊎ ((v.status ≡ 1) × (v.refused ≡ true))) → v.status ≡ 1
    by (inl same) = same.0 ∙ one
    by (inr now) = now.0

front-kept : (o v : Output) (text : Text) → GivesOut o v → SaysFront o text → SaysFront v text
front-kept o v text gives says = (still o v gives says.0, parts-kept o v text gives says.1)

said-kept : (o v : Output) (text : Text) → GivesOut o v → IsSaid o text → IsSaid v text
said-kept o v text gives (inl done) = by (gives.2)
  where
    by : (((v.status ≡ o.status) × (v.refused ≡ o.refused)) ⊎ ((v.status ≡ 1) × (v.refused ≡ true))) → IsSaid v text
    by (inl same) = inl (same.0 ∙ done.0, all-kept o v text gives done.1)
    by (inr now) = inr (now.0, (now.1, whole-front v text (all-kept o v text gives done.1)))
said-kept o v text gives (inr cut) = inr (still-one o v gives cut.0, front-kept o v text gives cut.1)

pub refused-kept : (o v : Output) (text : Text) → GivesOut o v → IsRefused o text → IsRefused v text
refused-kept o v text gives refused = (still-one o v gives refused.0, by (refused.1))
  where
    by : (SaysAll o text ⊎ SaysFront o text) → (SaysAll v text ⊎ SaysFront v text)
    by (inl all) = inl (all-kept o v text gives all)
    by (inr front) = inr (front-kept o v text gives front)

told-kept : (o v : Output) (r : Reply) → GivesOut o v → IsTold o r → IsTold v r
told-kept o v r gives told = by (is_refusal r) told
  where
    by : (b : Bool) → MatchBool b (IsRefused o (text_of r)) (IsSaid o (text_of r)) → MatchBool b (IsRefused v (text_of r)) (IsSaid v (text_of r))
    by true refused = refused-kept o v (text_of r) gives refused
    by false said = said-kept o v (text_of r) gives said

so-kept : (Is : Text → Type 0) (o v : Output) → GivesOut o v → SaysSo Is o → SaysSo Is v
so-kept Is o v gives (inl said) = inl (said.0, said.1, said-kept o v said.0 gives said.2)
so-kept Is o v gives (inr lacks) = inr (refused-kept o v _ gives lacks)

told_as-kept : (style : Style) (o v : Output) (r : Reply) → GivesOut o v → IsToldAs style o r → IsToldAs style v r
told_as-kept style o v (reply.Found value) gives told = so-kept (IsTextOf style (reply.Found value)) o v gives told
told_as-kept style o v (reply.Rows rows) gives told = so-kept (IsTextOf style (reply.Rows rows)) o v gives told
told_as-kept style o v (reply.Records found) gives told = so-kept (IsTextOf style (reply.Records found)) o v gives told
told_as-kept style o v (reply.Times times) gives told = so-kept (IsTextOf style (reply.Times times)) o v gives told
told_as-kept style o v (reply.Snapshot t) gives told = told-kept o v (reply.Snapshot t) gives told
told_as-kept style o v reply.Ok gives told = told-kept o v reply.Ok gives told
told_as-kept style o v reply.Queued gives told = told-kept o v reply.Queued gives told
told_as-kept style o v (reply.ReadOnly t) gives told = told-kept o v (reply.ReadOnly t) gives told
told_as-kept style o v (reply.Done t) gives told = told-kept o v (reply.Done t) gives told
told_as-kept style o v reply.Waiting gives told = told-kept o v reply.Waiting gives told
told_as-kept style o v reply.InDoubt gives told = told-kept o v reply.InDoubt gives told
told_as-kept style o v (reply.Did step) gives told = told-kept o v (reply.Did step) gives told
told_as-kept style o v reply.Started gives told = told-kept o v reply.Started gives told
told_as-kept style o v (reply.JobDid step) gives told = told-kept o v (reply.JobDid step) gives told
told_as-kept style o v (reply.Opened last floor) gives told = told-kept o v (reply.Opened last floor) gives told
told_as-kept style o v (reply.OpenedByRelation last many) gives told = told-kept o v (reply.OpenedByRelation last many) gives told
told_as-kept style o v (reply.Refused f) gives told = told-kept o v (reply.Refused f) gives told

told_in-kept : (style : Style) (o v : Output) (r : Reply) → GivesOut o v → IsToldIn style o r → IsToldIn style v r
told_in-kept style o v r gives told = by (is_plain style) told
  where
    by : (b : Bool) → MatchBool b (IsTold o r) (IsToldAs style o r) → MatchBool b (IsTold v r) (IsToldAs style v r)
    by true plainly = told-kept o v r gives plainly
    by false styled = told_as-kept style o v r gives styled

status-kept : (end : Ending) (o v : Output) → GivesOut o v → HasStatusOf end o → HasStatusOf end v
status-kept end o v gives (inl done) = by (gives.2)
  where
    by : (((v.status ≡ o.status) × (v.refused ≡ o.refused)) ⊎ ((v.status ≡ 1) × (v.refused ≡ true))) → HasStatusOf end v
    by (inl same) = inl (same.0 ∙ done.0, done.1)
    by (inr now) = inr (now.0, inr now.1)
status-kept end o v gives (inr failed) = inr (still-one o v gives failed.0, by (failed.1))
  where
    by : ((end ≢ Whole) ⊎ (o.refused ≡ true)) → ((end ≢ Whole) ⊎ (v.refused ≡ true))
    by (inl other) = inl other
    by (inr was) = inr (still o v gives was)

not_opened-kept : (tells : Bool) (old new : DiskState) (o v : Output) → GivesOut o v → DoesNotOpen tells old o new → DoesNotOpen tells old v new
not_opened-kept tells old new o v gives refused = (refused.0, refused.1, refused-kept o v _ gives refused.2)

no_memory-kept : (tells : Bool) (old new : DiskState) (o v : Output) → GivesOut o v → HasNoMemory tells old o new → HasNoMemory tells old v new
no_memory-kept tells old new o v gives lacks = (lacks.0, lacks.1, lacks.2, refused-kept o v _ gives lacks.3)

runs-kept : (tells : Bool) (old new : DiskState) (input : Input) (o v : Output) → GivesOut o v → RunsScript tells old input o new
    → RunsScript tells old input v new
runs-kept tells old new input o v gives (inl refused) = inl (not_opened-kept tells old new o v gives refused)
runs-kept tells old new input o v gives (inr (inl lacks)) = inr (inl (no_memory-kept tells old new o v gives lacks))
runs-kept tells old new input o v gives (inr (inr runs)) = inr (inr (record {
  opened = runs.opened;
  opens = runs.opens;
  lines = runs.lines;
  are = runs.are;
  out = runs.out;
  end = runs.end;
  run = runs.run;
  said = all-kept o v runs.out gives runs.said;
  ends = (runs.ends.0, λ (is : runs.end ≡ OutputRefused). still o v gives (runs.ends.1 is));
  status = status-kept runs.end o v gives runs.status;
}))

unmade-kept : (tells : Bool) (old new : DiskState) (layout : StoreLayout) (o v : Output) → GivesOut o v → RefusesToMake tells old layout o new
    → RefusesToMake tells old layout v new
unmade-kept tells old new layout o v gives refused = (refused.0, refused.1, refused-kept o v _ gives refused.2)

made-kept : (tells : Bool) (old new : DiskState) (layout : Layout) (o v : Output) → GivesOut o v → Makes tells old layout o new
    → Makes tells old layout v new
made-kept tells old new layout o v gives (inl made) = inl (record { size = made.size; formatted = made.formatted; said = said-kept o v _ gives made.said })
made-kept tells old new layout o v gives (inr refused) = inr (unmade-kept tells old new (store_layout layout) o v gives refused)

profile-kept : (old new : DiskState) (o v : Output) → GivesOut o v → RefusesProfile old o new → RefusesProfile old v new
profile-kept old new o v gives refused = (refused.0, refused-kept o v _ gives refused.1)

makes-kept : (tells : Bool) (old new : DiskState) (layout : Option Layout) (o v : Output) → GivesOut o v
    → MatchOption layout (RefusesProfile old o new) (λ l. Makes tells old l o new)
    → MatchOption layout (RefusesProfile old v new) (λ l. Makes tells old l v new)
makes-kept tells old new None o v gives refused = profile-kept old new o v gives refused
makes-kept tells old new (Some l) o v gives makes = made-kept tells old new l o v gives makes

runs_new-kept : (tells : Bool) (old new : DiskState) (input : Input) (o v : Output) → GivesOut o v → RunsNew tells old input o new
    → RunsNew tells old input v new
runs_new-kept tells old new input o v gives (inl refused) = inl (unmade-kept tells old new (Slots 16) o v gives refused)
runs_new-kept tells old new input o v gives (inr runs) =
    inr (record { made = runs.made; formatted = runs.formatted; sound = runs.sound; runs = runs-kept tells runs.made new input o v gives runs.runs })

asks-kept : (tells : Bool) (style : Style) (old new : DiskState) (asks : StoreValue → Line) (o v : Output) → GivesOut o v → Asks tells style old asks o new
    → Asks tells style old asks v new
asks-kept tells style old new asks o v gives (inl refused) = inl (not_opened-kept tells old new o v gives refused)
asks-kept tells style old new asks o v gives (inr (inl lacks)) = inr (inl (no_memory-kept tells old new o v gives lacks))
asks-kept tells style old new asks o v gives (inr (inr asked)) = inr (inr (record {
  opened = asked.opened;
  opens = asked.opens;
  answer = asked.answer;
  asked = asked.asked;
  step = asked.step;
  told = told_in-kept style o v asked.answer gives asked.told;
  closes = asked.closes;
}))

time-kept : (old new : DiskState) (o v : Output) → GivesOut o v → RefusesTime old o new → RefusesTime old v new
time-kept old new o v gives refused = (refused.0, refused-kept o v _ gives refused.1)

at-kept : (tells : Bool) (old new : DiskState) (time : Option ℕ) (line : ℕ → Line) (o v : Output) → GivesOut o v
    → MatchOption time (RefusesTime old o new) (λ t. Asks tells plain old (λ store. line t) o new)
    → MatchOption time (RefusesTime old v new) (λ t. Asks tells plain old (λ store. line t) v new)
at-kept tells old new None line o v gives refused = time-kept old new o v gives refused
at-kept tells old new (Some t) line o v gives asks = asks-kept tells plain old new (λ store. line t) o v gives asks

between-kept : (tells : Bool) (old new : DiskState) (from to : Option ℕ) (line : ℕ → ℕ → Line) (o v : Output) → GivesOut o v
    → MatchOption from (RefusesTime old o new) (λ s. MatchOption to (RefusesTime old o new) (λ t. Asks tells plain old (λ store. line s t) o new))
    → MatchOption from (RefusesTime old v new) (λ s. MatchOption to (RefusesTime old v new) (λ t. Asks tells plain old (λ store. line s t) v new))
between-kept tells old new None to line o v gives refused = time-kept old new o v gives refused
between-kept tells old new (Some s) to line o v gives asks = at-kept tells old new to (line s) o v gives asks

ask-kept : (tells : Bool) (style : Style) (old new : DiskState) (asked : Option Question) (o v : Output) → GivesOut o v
    → MatchOption asked (RefusesTime old o new) (λ q. Asks tells style old (line_asked q) o new)
    → MatchOption asked (RefusesTime old v new) (λ q. Asks tells style old (line_asked q) v new)
ask-kept tells style old new None o v gives refused = time-kept old new o v gives refused
ask-kept tells style old new (Some q) o v gives asks = asks-kept tells style old new (line_asked q) o v gives asks

writes-kept : (tells : Bool) (old new : DiskState) (write : RecordWrite) (o v : Output) → GivesOut o v → Writes tells old write o new
    → Writes tells old write v new
writes-kept tells old new write o v gives (inl lacks) = inl (lacks.0, refused-kept o v _ gives lacks.1)
writes-kept tells old new write o v gives (inr (inl refused)) = inr (inl (not_opened-kept tells old new o v gives refused))
writes-kept tells old new write o v gives (inr (inr (inl lacks))) = inr (inr (inl (no_memory-kept tells old new o v gives lacks)))
writes-kept tells old new write o v gives (inr (inr (inr did))) = inr (inr (inr (record {
  opened = did.opened;
  opens = did.opens;
  answer = did.answer;
  asked = did.asked;
  does = did.does;
  told = told-kept o v did.answer gives did.told;
  closes = did.closes;
})))

archived-kept : (tells : Bool) (upto : ℕ) (given new : DiskState) (refusal : Reply) (o v : Output) → GivesOut o v → SaysArchived tells upto given refusal o new
    → SaysArchived tells upto given refusal v new
archived-kept tells upto given new refusal o v gives (inl said) = inl (said.0, said.1, refused-kept o v _ gives said.2)
archived-kept tells upto given new refusal o v gives (inr lacks) = inr (lacks.0, lacks.1, refused-kept o v _ gives lacks.2)

both-kept : (tells : Bool) (upto : ℕ) (given new : DiskState) (o v : Output) → GivesOut o v → SaysBoth tells upto given o new → SaysBoth tells upto given v new
both-kept tells upto given new o v gives (inl said) = inl (said.0, said.1, said-kept o v _ gives said.2)
both-kept tells upto given new o v gives (inr lacks) = inr (lacks.0, lacks.1, refused-kept o v _ gives lacks.2)

vacuum_said-kept : (tells : Bool) (upto : ℕ) (given new : DiskState) (done : Vacuumed) (o v : Output) → GivesOut o v → SaysVacuum tells upto given done o new
    → SaysVacuum tells upto given done v new
vacuum_said-kept tells upto given new (vacuumed.Nothing refusal) o v gives said = (said.0, refused-kept o v _ gives said.1)
vacuum_said-kept tells upto given new (vacuumed.Archived refusal) o v gives said = archived-kept tells upto given new refusal o v gives said
vacuum_said-kept tells upto given new vacuumed.Both o v gives said = both-kept tells upto given new o v gives said

vacuums-kept : (tells : Bool) (old new : DiskState) (upto : ℕ) (o v : Output) → GivesOut o v → Vacuums tells old upto o new → Vacuums tells old upto v new
vacuums-kept tells old new upto o v gives (inl refused) = inl (not_opened-kept tells old new o v gives refused)
vacuums-kept tells old new upto o v gives (inr (inl lacks)) = inr (inl (no_memory-kept tells old new o v gives lacks))
vacuums-kept tells old new upto o v gives (inr (inr did)) = inr (inr (record {
  opened = did.opened;
  opens = did.opens;
  done = did.done;
  asked = did.asked;
  does = did.does;
  given = did.given;
  closes = did.closes;
  says = vacuum_said-kept tells upto did.given new did.done o v gives did.says;
}))

upto-kept : (tells : Bool) (old new : DiskState) (time : Option ℕ) (o v : Output) → GivesOut o v
    → MatchOption time (RefusesTime old o new) (λ t. Vacuums tells old t o new) → MatchOption time (RefusesTime old v new) (λ t. Vacuums tells old t v new)
upto-kept tells old new None o v gives refused = time-kept old new o v gives refused
upto-kept tells old new (Some t) o v gives did = vacuums-kept tells old new t o v gives did

slots-kept : (tells : Bool) (given new : DiskState) (o v : Output) → GivesOut o v → SaysSlots tells given o new → SaysSlots tells given v new
slots-kept tells given new o v gives (inl said) = inl (said.0, said.1, said-kept o v _ gives said.2, said.3)
slots-kept tells given new o v gives (inr lacks) = inr (lacks.0, lacks.1, refused-kept o v _ gives lacks.2)

grown-kept : (tells : Bool) (given new : DiskState) (refused : Option Reply) (o v : Output) → GivesOut o v → SaysGrown tells given refused o new
    → SaysGrown tells given refused v new
grown-kept tells given new None o v gives said = slots-kept tells given new o v gives said
grown-kept tells given new (Some refusal) o v gives said = (said.0, refused-kept o v _ gives said.1)

grows-kept : (tells : Bool) (old new : DiskState) (o v : Output) → GivesOut o v → Grows tells old o new → Grows tells old v new
grows-kept tells old new o v gives (inl refused) = inl (not_opened-kept tells old new o v gives refused)
grows-kept tells old new o v gives (inr (inl lacks)) = inr (inl (no_memory-kept tells old new o v gives lacks))
grows-kept tells old new o v gives (inr (inr did)) = inr (inr (record {
  opened = did.opened;
  opens = did.opens;
  refused = did.refused;
  asked = did.asked;
  does = did.does;
  given = did.given;
  closes = did.closes;
  says = grown-kept tells did.given new did.refused o v gives did.says;
}))

dumps-kept : (tells : Bool) (old new : DiskState) (o v : Output) → GivesOut o v → Dumps tells old o new → Dumps tells old v new
dumps-kept tells old new o v gives (inl (inl lacks)) =
    inl (inl (record { why = lacks.why; fault = lacks.fault; only = lacks.only; same = lacks.same; said = refused-kept o v _ gives lacks.said }))
dumps-kept tells old new o v gives (inl (inr lacks)) =
    inl (inr (record {
      header = lacks.header;
      reads = lacks.reads;
      why = lacks.why;
      fault = lacks.fault;
      same = lacks.same;
      said = refused-kept o v _ gives lacks.said;
    }))
dumps-kept tells old new o v gives (inr (inl done)) =
    inr (inl (record {
      header = done.header;
      slots = done.slots;
      reads = done.reads;
      log = done.log;
      text = done.text;
      dump = done.dump;
      said = said-kept o v done.text gives done.said;
      same = done.same;
    }))
dumps-kept tells old new o v gives (inr (inr lacks)) = inr (inr (lacks.0, refused-kept o v _ gives lacks.1))

raised-kept : (time : ℕ) (refused : Option Reply) (o v : Output) → GivesOut o v → SaysRaised time refused o → SaysRaised time refused v
raised-kept time None o v gives said = said-kept o v _ gives said
raised-kept time (Some refusal) o v gives said = refused-kept o v _ gives said

raises-kept : (tells : Bool) (old new : DiskState) (relation time : ℕ) (o v : Output) → GivesOut o v → Raises tells old relation time o new
    → Raises tells old relation time v new
raises-kept tells old new relation time o v gives (inl refused) = inl (not_opened-kept tells old new o v gives refused)
raises-kept tells old new relation time o v gives (inr (inl lacks)) = inr (inl (no_memory-kept tells old new o v gives lacks))
raises-kept tells old new relation time o v gives (inr (inr did)) = inr (inr (record {
  opened = did.opened;
  opens = did.opens;
  refused = did.refused;
  asked = did.asked;
  does = did.does;
  closes = did.closes;
  says = raised-kept time did.refused o v gives did.says;
}))

raise-kept : (tells : Bool) (old new : DiskState) (relation : ℕ) (time : Option ℕ) (o v : Output) → GivesOut o v
    → MatchOption time (RefusesTime old o new) (λ t. Raises tells old relation t o new)
    → MatchOption time (RefusesTime old v new) (λ t. Raises tells old relation t v new)
raise-kept tells old new relation None o v gives refused = time-kept old new o v gives refused
raise-kept tells old new relation (Some t) o v gives did = raises-kept tells old new relation t o v gives did

tells-kept : (tells : Bool) (old new : DiskState) (json : Bool) (o v : Output) → GivesOut o v → Tells tells old json o new → Tells tells old json v new
tells-kept tells old new json o v gives (inl (inl lacks)) =
    inl (inl (record { why = lacks.why; fault = lacks.fault; only = lacks.only; same = lacks.same; said = refused-kept o v _ gives lacks.said }))
tells-kept tells old new json o v gives (inl (inr lacks)) =
    inl (inr (record {
      header = lacks.header;
      reads = lacks.reads;
      why = lacks.why;
      fault = lacks.fault;
      same = lacks.same;
      said = refused-kept o v _ gives lacks.said;
    }))
tells-kept tells old new json o v gives (inr (inl done)) =
    inr (inl (record {
      header = done.header;
      slots = done.slots;
      reads = done.reads;
      log = done.log;
      said = said-kept o v _ gives done.said;
      same = done.same;
    }))
tells-kept tells old new json o v gives (inr (inr lacks)) = inr (inr (lacks.0, refused-kept o v _ gives lacks.1))

-- of a log in the heap
tells_heap-kept : (tells : Bool) (old new : DiskState) (json : Bool) (o v : Output) → GivesOut o v
    → TellsHeap tells old json o new ⊎ HasNoInfo tells old o new → TellsHeap tells old json v new ⊎ HasNoInfo tells old v new
tells_heap-kept tells old new json o v gives (inl done) =
    inl (record { text = done.text; is = done.is; said = said-kept o v _ gives done.said; same = done.same })
tells_heap-kept tells old new json o v gives (inr lacks) =
    inr (record { why = lacks.why; fault = lacks.fault; left = lacks.left; said = refused-kept o v _ gives lacks.said })

dump_said-kept : (text : Text) (fault : Option OpenFault) (o v : Output) → GivesOut o v
    → MatchOption fault (IsSaid o text) (λ why. IsRefused o (text ++ open_line why))
    → MatchOption fault (IsSaid v text) (λ why. IsRefused v (text ++ open_line why))
dump_said-kept text None o v gives said = said-kept o v text gives said
dump_said-kept text (Some why) o v gives refused = refused-kept o v _ gives refused

dumps_heap-kept : (tells : Bool) (old new : DiskState) (o v : Output) → GivesOut o v → DumpsHeap tells old o new ⊎ HasNoDump tells old o new
    → DumpsHeap tells old v new ⊎ HasNoDump tells old v new
dumps_heap-kept tells old new o v gives (inl done) = inl (record {
  dump = done.dump;
  is = done.is;
  said = dump_said-kept done.dump.text.items done.dump.fault o v gives done.said;
  same = done.same;
})
dumps_heap-kept tells old new o v gives (inr lacks) =
    inr (record { why = lacks.why; fault = lacks.fault; left = lacks.left; said = refused-kept o v _ gives lacks.said })

-- of either
shown-kept : (tells : Bool) (old new : DiskState) (o v : Output) (InSlots InSlots' InHeap InHeap' : Type 0) → GivesOut o v → (InSlots → InSlots')
    → (InHeap → InHeap')
    → ByLayout tells old o new InSlots InHeap → ByLayout tells old v new InSlots' InHeap'
shown-kept tells old new o v InSlots InSlots' InHeap InHeap' gives by in_heap (inl shown) = inl (shown.0, by shown.1)
shown-kept tells old new o v InSlots InSlots' InHeap InHeap' gives by in_heap (inr (inl shown)) = inr (inl (shown.0, in_heap shown.1))
shown-kept tells old new o v InSlots InSlots' InHeap InHeap' gives by in_heap (inr (inr lacks)) = inr (inr (lacks.0, refused-kept o v _ gives lacks.1))

pub acts-kept : (tells : Bool) (a : Action) (old new : DiskState) (input : Input) (o v : Output) → GivesOut o v → Acts tells a old input o new
    → Acts tells a old input v new
acts-kept tells action.Example old new input o v gives acts = runs_new-kept tells old new input o v gives acts
acts-kept tells (action.Format dir layout) old new input o v gives acts = makes-kept tells old new layout o v gives acts
acts-kept tells (action.Run dir) old new input o v gives acts = runs-kept tells old new input o v gives acts
acts-kept tells (action.At dir key time) old new input o v gives acts = at-kept tells old new time (λ t. line.At key t) o v gives acts
acts-kept tells (action.Between dir key from to) old new input o v gives acts = between-kept tells old new from to (λ s t. line.Between key s t) o v gives acts
acts-kept tells (action.Ask dir asked style) old new input o v gives acts = ask-kept tells style old new asked o v gives acts
acts-kept tells (action.Write dir write) old new input o v gives acts = writes-kept tells old new write o v gives acts
acts-kept tells (action.Vacuum dir time) old new input o v gives acts = upto-kept tells old new time o v gives acts
acts-kept tells (action.Grow dir) old new input o v gives acts = grows-kept tells old new o v gives acts
acts-kept tells (action.Floor dir relation time) old new input o v gives acts = raise-kept tells old new relation time o v gives acts
acts-kept tells (action.Info dir json) old new input o v gives acts =
    shown-kept tells old new o v (Tells tells old json o new) (Tells tells old json v new) (TellsHeap tells old json o new ⊎ HasNoInfo tells old o new)
    (TellsHeap tells old json v new ⊎ HasNoInfo tells old v new) gives (tells-kept tells old new json o v gives)
    (tells_heap-kept tells old new json o v gives) acts
acts-kept tells (action.Dump dir) old new input o v gives acts =
    shown-kept tells old new o v (Dumps tells old o new) (Dumps tells old v new) (DumpsHeap tells old o new ⊎ HasNoDump tells old o new)
    (DumpsHeap tells old v new ⊎ HasNoDump tells old v new) gives (dumps-kept tells old new o v gives) (dumps_heap-kept tells old new o v gives) acts
acts-kept tells (action.Stress writers readers rounds) old new input o v gives acts = (acts.0, refused-kept o v [] gives acts.1)
