-- What was said, and the status.
use Rattle.std.proofs.Common.{◌≡◌, ◌≢◌, ◌≤◌, ◌⊎◌, ◌∙◌, inl, inr, ℕ, ◌++◌, List, [], ap, Bool, true, false, Option, Some, None, Result, Ok, Err, sym, subst}
use Rattle.std.proofs.Common.{arith, append_assoc}
use Rattle.std.specs.Prelude.{IfOk, MatchBool, MatchOption, MatchResult}
use Rattle.std.specs.declared.alloc.Global.{Global}
use Rattle.std.specs.declared.vec.Vec.{Vec}
use Rattle.disk.specs.Calls.{DiskState}
use Rattle.script.specs.declared.line.Line.{Line}
use Rattle.script.specs.declared.line.Line.TheVariants as line
use Rattle.std.specs.Io.KnownBytes.{Appends}
use Rattle.std.proofs.KnownBytes.{Appends-trans}
use Rattle.session.specs.Streams.{AppendsFront, Says}
use Rattle.session.specs.Texts.{Text, open_line, refusal_line, text_of}
use Rattle.session.specs.declared.fault.Fault.TheVariants as fault
use Rattle.session.specs.declared.ending.Ending.{Ending}
use Rattle.session.specs.declared.ending.Ending.TheVariants.{Whole}
use Rattle.session.specs.declared.reply.Reply.{Reply}
use Rattle.session.specs.declared.reply.Reply.TheVariants as reply
use Rattle.forms.specs.Styles.{is_plain, plain}
use Rattle.forms.specs.declared.style.Style.{Style}
use Rattle.shell.specs.Styled.{IsTextOf}
use Rattle.any_store.specs.Values.{StoreValue}
use Rattle.command_line.specs.declared.question.Question.{Question}
use Rattle.command_line.specs.declared.question.RecordWrite.{RecordWrite}
use Rattle.command_line.specs.declared.action.Action.{Action}
use Rattle.command_line.specs.declared.action.Action.TheVariants as action
use Rattle.command_line.specs.declared.layout.Layout.{Layout}
use Rattle.shell.specs.Acts.{ByLayout, Dumps, DumpsHeap, HasNoDump, HasNoInfo, RefusesProfile, TellsHeap}
use Rattle.log_dump.specs.declared.dump.Dump.{Dump}
use Rattle.recovery.specs.declared.fault.OpenFault.{OpenFault}
use Rattle.shell.specs.Acts.{Acts, Asks, Grows, HasStatusOf, Input, IsRefused, IsSaid, IsTold, Makes, Output, RefusesTime, RunsNew, RunsScript, SaysAll}
use Rattle.shell.specs.Acts.{IsToldAs, IsToldIn, Raises, SaysRaised, SaysSo, Tells}
use Rattle.shell.specs.Acts.{SaysFront, SaysGrown, SaysSlots, SaysVacuum, Vacuums, Writes}
use Rattle.shell.specs.Asking.{line_asked}
use Rattle.shell.specs.Vacuums.{is_refusal}
use Rattle.shell.specs.declared.vacuuming.Vacuumed.{Vacuumed}
use Rattle.shell.specs.declared.vacuuming.Vacuumed.TheVariants as vacuumed

-- one text is said after another, of which the first was said in full
pub says-more : {T E : Type 0} (a b c : Option Text) (x y : Text) (r : Result T E) (refused : Bool) → Appends a b x → Says b y r c refused
    → Says a (x ++ y) r c refused
says-more a b c x y (Ok u) refused first says = Appends-trans a b c x y first says
says-more a b c x y (Err e) refused first says = (
  (
    x ++ says.0.0,
    (says.0.1.0, ap (λ (t : Text). x ++ t) says.0.1.1 ∙ sym (append_assoc x says.0.0 says.0.1.0)),
    Appends-trans a b c x says.0.0 first says.0.2,
  ),
  says.1,
)

-- a front of the first is one of both
pub front-more : (a b : Option Text) (x y : Text) → AppendsFront a b x → AppendsFront a b (x ++ y)
front-more a b x y front = (front.0, (front.1.0 ++ y, ap (λ (t : Text). t ++ y) front.1.1 ∙ append_assoc front.0 front.1.0 y), front.2)

-- a text was written where nothing was
pub appended-none : (old new text : Text) → old ≡ [] → new ≡ old ++ text → new ≡ text
appended-none old new text none is = is ∙ ap (λ (t : Text). t ++ text) none

pub either-said : {T E : Type 0} (o : Output) (text : Text) (r : Result T E) → Says o.before text r o.after o.refused → SaysAll o text ⊎ SaysFront o text
either-said o text (Ok u) says = inl says
either-said o text (Err e) says = inr (says.1, says.0)

pub said-by : {T E : Type 0} (o : Output) (text : Text) (r : Result T E) → Says o.before text r o.after o.refused
    → MatchResult r (λ _. o.status ≡ 0) (λ _. o.status ≡ 1) → IsSaid o text
said-by o text (Ok u) says status = inl (status, says)
said-by o text (Err e) says status = inr (status, (says.1, says.0))

pub told-as : (b : Bool) (o : Output) (r : Reply) → b ≡ is_refusal r → MatchBool b (IsRefused o (text_of r)) (IsSaid o (text_of r)) → IsTold o r
told-as b o r is told = subst (λ (x : Bool). MatchBool x (IsRefused o (text_of r)) (IsSaid o (text_of r))) is told

pub told-refused : (b : Bool) (o : Output) (r : Reply) → b ≡ is_refusal r → b ≡ true → IsRefused o (text_of r) → IsTold o r
told-refused b o r is yes' refused = told-as b o r is (subst (λ (x : Bool). MatchBool x (IsRefused o (text_of r)) (IsSaid o (text_of r))) (sym yes') refused)

pub told-said : (b : Bool) (o : Output) (r : Reply) → b ≡ is_refusal r → b ≡ false → IsSaid o (text_of r) → IsTold o r
told-said b o r is no' said = told-as b o r is (subst (λ (x : Bool). MatchBool x (IsRefused o (text_of r)) (IsSaid o (text_of r))) (sym no') said)

-- a text was spelled, and it is said, or that there is no memory for it
pub so-said : {E : Type 0} (Is : Text → Type 0) (o : Output) (r : Result (Vec ℕ Global) E) → IfOk r (λ text. Is text.items)
    → MatchResult r (λ text. IsSaid o text.items) (λ _. IsRefused o (refusal_line fault.NoMemory)) → SaysSo Is o
so-said Is o (Ok text) is said = inl (text.items, is, said)
so-said Is o (Err e) is refused = inr refused

-- the same of a text that tells a list
pub listed-said : {X E : Type 0} (Is : List X → Text → Type 0) (xs ys : List X) (o : Output) (r : Result (Vec ℕ Global) E) → xs ≡ ys
    → IfOk r (λ text. Is xs text.items) → MatchResult r (λ text. IsSaid o text.items) (λ _. IsRefused o (refusal_line fault.NoMemory)) → SaysSo (Is ys) o
listed-said Is xs ys o r same is said = so-said (Is ys) o r (subst (λ (l : List _). IfOk r (λ text. Is l text.items)) same is) said

pub told-plainly : (style : Style) (b : Bool) (o : Output) (r : Reply) → b ≡ is_plain style → b ≡ true → IsTold o r → IsToldIn style o r
told-plainly style b o r is yes' told = subst (λ (x : Bool). MatchBool x (IsTold o r) (IsToldAs style o r)) (sym yes' ∙ is) told

pub told-styled : (style : Style) (b : Bool) (o : Output) (r : Reply) → b ≡ is_plain style → b ≡ false → IsToldAs style o r → IsToldIn style o r
told-styled style b o r is no' told = subst (λ (x : Bool). MatchBool x (IsTold o r) (IsToldAs style o r)) (sym no' ∙ is) told

pub has-status : (end : Ending) (o : Output) → (((o.status ≡ 0) × (end ≡ Whole)) ⊎ ((o.status ≡ 1) × (end ≢ Whole))) → HasStatusOf end o
has-status end o (inl done) = inl done
has-status end o (inr failed) = inr (failed.0, inl failed.1)

-- ---- the status is 0 or 1

zero-least : (n : ℕ) → n ≡ 0 → n ≤ 1
zero-least n is = omega arith

one-least : (n : ℕ) → n ≡ 1 → n ≤ 1
one-least n is = omega arith

said-status : (o : Output) (text : Text) → IsSaid o text → o.status ≤ 1
said-status o text (inl done) = zero-least o.status done.0
said-status o text (inr cut) = one-least o.status cut.0

refused-status : (o : Output) (text : Text) → IsRefused o text → o.status ≤ 1
refused-status o text refused = one-least o.status refused.0

told-status : (o : Output) (r : Reply) → IsTold o r → o.status ≤ 1
told-status o r told = by (is_refusal r) told
  where
    by : (b : Bool) → MatchBool b (IsRefused o (text_of r)) (IsSaid o (text_of r)) → o.status ≤ 1
    by true refused = refused-status o (text_of r) refused
    by false said = said-status o (text_of r) said

-- a text that is so is said, or that there is no memory for it
so-status : (Is : Text → Type 0) (o : Output) → SaysSo Is o → o.status ≤ 1
so-status Is o (inl said) = said-status o said.0 said.2
so-status Is o (inr lacks) = refused-status o _ lacks

told_as-status : (style : Style) (o : Output) (r : Reply) → IsToldAs style o r → o.status ≤ 1
told_as-status style o (reply.Found value) told = so-status (IsTextOf style (reply.Found value)) o told
told_as-status style o (reply.Rows rows) told = so-status (IsTextOf style (reply.Rows rows)) o told
told_as-status style o (reply.Records found) told = so-status (IsTextOf style (reply.Records found)) o told
told_as-status style o (reply.Times times) told = so-status (IsTextOf style (reply.Times times)) o told
told_as-status style o (reply.Snapshot t) told = told-status o (reply.Snapshot t) told
told_as-status style o reply.Ok told = told-status o reply.Ok told
told_as-status style o reply.Queued told = told-status o reply.Queued told
told_as-status style o (reply.ReadOnly t) told = told-status o (reply.ReadOnly t) told
told_as-status style o (reply.Done t) told = told-status o (reply.Done t) told
told_as-status style o reply.Waiting told = told-status o reply.Waiting told
told_as-status style o reply.InDoubt told = told-status o reply.InDoubt told
told_as-status style o (reply.Did step) told = told-status o (reply.Did step) told
told_as-status style o reply.Started told = told-status o reply.Started told
told_as-status style o (reply.JobDid step) told = told-status o (reply.JobDid step) told
told_as-status style o (reply.Opened last floor) told = told-status o (reply.Opened last floor) told
told_as-status style o (reply.OpenedByRelation last many) told = told-status o (reply.OpenedByRelation last many) told
told_as-status style o (reply.Refused f) told = told-status o (reply.Refused f) told

told_in-status : (style : Style) (o : Output) (r : Reply) → IsToldIn style o r → o.status ≤ 1
told_in-status style o r told = by (is_plain style) told
  where
    by : (b : Bool) → MatchBool b (IsTold o r) (IsToldAs style o r) → o.status ≤ 1
    by true plainly = told-status o r plainly
    by false styled = told_as-status style o r styled

ended-status : (end : Ending) (o : Output) → HasStatusOf end o → o.status ≤ 1
ended-status end o (inl done) = zero-least o.status done.0
ended-status end o (inr failed) = one-least o.status failed.0

made-status : (tells : Bool) (old new : DiskState) (layout : Layout) (o : Output) → Makes tells old layout o new → o.status ≤ 1
made-status tells old new layout o (inl made) = said-status o _ made.said
made-status tells old new layout o (inr refused) = refused-status o _ refused.2

makes-status : (tells : Bool) (old new : DiskState) (layout : Option Layout) (o : Output)
    → MatchOption layout (RefusesProfile old o new) (λ l. Makes tells old l o new) → o.status ≤ 1
makes-status tells old new None o refused = refused-status o _ refused.1
makes-status tells old new (Some l) o makes = made-status tells old new l o makes

runs-status : (tells : Bool) (old new : DiskState) (input : Input) (o : Output) → RunsScript tells old input o new → o.status ≤ 1
runs-status tells old new input o (inl refused) = refused-status o _ refused.2
runs-status tells old new input o (inr (inl lacks)) = refused-status o _ lacks.3
runs-status tells old new input o (inr (inr runs)) = ended-status runs.end o runs.status

runs_new-status : (tells : Bool) (old new : DiskState) (input : Input) (o : Output) → RunsNew tells old input o new → o.status ≤ 1
runs_new-status tells old new input o (inl refused) = refused-status o _ refused.2
runs_new-status tells old new input o (inr runs) = runs-status tells runs.made new input o runs.runs

asks-status : (tells : Bool) (style : Style) (old new : DiskState) (asks : StoreValue → Line) (o : Output) → Asks tells style old asks o new → o.status ≤ 1
asks-status tells style old new asks o (inl refused) = refused-status o _ refused.2
asks-status tells style old new asks o (inr (inl lacks)) = refused-status o _ lacks.3
asks-status tells style old new asks o (inr (inr asked)) = told_in-status style o asked.answer asked.told

time-status : (old new : DiskState) (o : Output) → RefusesTime old o new → o.status ≤ 1
time-status old new o refused = refused-status o _ refused.1

at-status : (tells : Bool) (old new : DiskState) (time : Option ℕ) (line : ℕ → Line) (o : Output)
    → MatchOption time (RefusesTime old o new) (λ t. Asks tells plain old (λ store. line t) o new) → o.status ≤ 1
at-status tells old new None line o refused = time-status old new o refused
at-status tells old new (Some t) line o asks = asks-status tells plain old new (λ store. line t) o asks

between-status : (tells : Bool) (old new : DiskState) (from to : Option ℕ) (line : ℕ → ℕ → Line) (o : Output)
    → MatchOption from (RefusesTime old o new) (λ s. MatchOption to (RefusesTime old o new) (λ t. Asks tells plain old (λ store. line s t) o new))
    → o.status ≤ 1
between-status tells old new None to line o refused = time-status old new o refused
between-status tells old new (Some s) to line o asks = at-status tells old new to (line s) o asks

ask-status : (tells : Bool) (style : Style) (old new : DiskState) (asked : Option Question) (o : Output)
    → MatchOption asked (RefusesTime old o new) (λ q. Asks tells style old (line_asked q) o new) → o.status ≤ 1
ask-status tells style old new None o refused = time-status old new o refused
ask-status tells style old new (Some q) o asks = asks-status tells style old new (line_asked q) o asks

writes-status : (tells : Bool) (old new : DiskState) (write : RecordWrite) (o : Output) → Writes tells old write o new → o.status ≤ 1
writes-status tells old new write o (inl lacks) = refused-status o _ lacks.1
writes-status tells old new write o (inr (inl refused)) = refused-status o _ refused.2
writes-status tells old new write o (inr (inr (inl lacks))) = refused-status o _ lacks.3
writes-status tells old new write o (inr (inr (inr did))) = told-status o did.answer did.told

vacuum_said-status : (tells : Bool) (upto : ℕ) (given new : DiskState) (done : Vacuumed) (o : Output) → SaysVacuum tells upto given done o new → o.status ≤ 1
vacuum_said-status tells upto given new (vacuumed.Nothing refusal) o said = refused-status o _ said.1
vacuum_said-status tells upto given new (vacuumed.Archived refusal) o (inl said) = refused-status o _ said.2
vacuum_said-status tells upto given new (vacuumed.Archived refusal) o (inr lacks) = refused-status o _ lacks.2
vacuum_said-status tells upto given new vacuumed.Both o (inl said) = said-status o _ said.2
vacuum_said-status tells upto given new vacuumed.Both o (inr lacks) = refused-status o _ lacks.2

vacuums-status : (tells : Bool) (old new : DiskState) (upto : ℕ) (o : Output) → Vacuums tells old upto o new → o.status ≤ 1
vacuums-status tells old new upto o (inl refused) = refused-status o _ refused.2
vacuums-status tells old new upto o (inr (inl lacks)) = refused-status o _ lacks.3
vacuums-status tells old new upto o (inr (inr did)) = vacuum_said-status tells upto did.given new did.done o did.says

upto-status : (tells : Bool) (old new : DiskState) (time : Option ℕ) (o : Output) → MatchOption time (RefusesTime old o new) (λ t. Vacuums tells old t o new)
    → o.status ≤ 1
upto-status tells old new None o refused = time-status old new o refused
upto-status tells old new (Some t) o did = vacuums-status tells old new t o did

slots-status : (tells : Bool) (given new : DiskState) (o : Output) → SaysSlots tells given o new → o.status ≤ 1
slots-status tells given new o (inl said) = said-status o _ said.2
slots-status tells given new o (inr lacks) = refused-status o _ lacks.2

grown-status : (tells : Bool) (given new : DiskState) (refused : Option Reply) (o : Output) → SaysGrown tells given refused o new → o.status ≤ 1
grown-status tells given new None o said = slots-status tells given new o said
grown-status tells given new (Some refusal) o said = refused-status o _ said.1

grows-status : (tells : Bool) (old new : DiskState) (o : Output) → Grows tells old o new → o.status ≤ 1
grows-status tells old new o (inl refused) = refused-status o _ refused.2
grows-status tells old new o (inr (inl lacks)) = refused-status o _ lacks.3
grows-status tells old new o (inr (inr did)) = grown-status tells did.given new did.refused o did.says

raised-status : (time : ℕ) (refused : Option Reply) (o : Output) → SaysRaised time refused o → o.status ≤ 1
raised-status time None o said = said-status o _ said
raised-status time (Some refusal) o said = refused-status o _ said

raises-status : (tells : Bool) (old new : DiskState) (relation time : ℕ) (o : Output) → Raises tells old relation time o new → o.status ≤ 1
raises-status tells old new relation time o (inl refused) = refused-status o _ refused.2
raises-status tells old new relation time o (inr (inl lacks)) = refused-status o _ lacks.3
raises-status tells old new relation time o (inr (inr did)) = raised-status time did.refused o did.says

raise-status : (tells : Bool) (old new : DiskState) (relation : ℕ) (time : Option ℕ) (o : Output)
    → MatchOption time (RefusesTime old o new) (λ t. Raises tells old relation t o new) → o.status ≤ 1
raise-status tells old new relation None o refused = time-status old new o refused
raise-status tells old new relation (Some t) o did = raises-status tells old new relation t o did

tells-status : (tells : Bool) (old new : DiskState) (json : Bool) (o : Output) → Tells tells old json o new → o.status ≤ 1
tells-status tells old new json o (inl (inl lacks)) = refused-status o _ lacks.said
tells-status tells old new json o (inl (inr lacks)) = refused-status o _ lacks.said
tells-status tells old new json o (inr (inl done)) = said-status o _ done.said
tells-status tells old new json o (inr (inr lacks)) = refused-status o _ lacks.1

dumps-status : (tells : Bool) (old new : DiskState) (o : Output) → Dumps tells old o new → o.status ≤ 1
dumps-status tells old new o (inl (inl lacks)) = refused-status o _ lacks.said
dumps-status tells old new o (inl (inr lacks)) = refused-status o _ lacks.said
dumps-status tells old new o (inr (inl done)) = said-status o done.text done.said
dumps-status tells old new o (inr (inr lacks)) = refused-status o _ lacks.1

-- of a log in the heap
tells_heap-status : (tells : Bool) (old new : DiskState) (json : Bool) (o : Output) → TellsHeap tells old json o new ⊎ HasNoInfo tells old o new
    → o.status ≤ 1
tells_heap-status tells old new json o (inl done) = said-status o done.text done.said
tells_heap-status tells old new json o (inr lacks) = refused-status o _ lacks.said

dump_said-status : (text : Text) (fault : Option OpenFault) (o : Output)
    → MatchOption fault (IsSaid o text) (λ why. IsRefused o (text ++ open_line why)) → o.status ≤ 1
dump_said-status text None o said = said-status o text said
dump_said-status text (Some why) o refused = refused-status o _ refused

dumps_heap-status : (tells : Bool) (old new : DiskState) (o : Output) → DumpsHeap tells old o new ⊎ HasNoDump tells old o new → o.status ≤ 1
dumps_heap-status tells old new o (inl done) = dump_said-status done.dump.text.items done.dump.fault o done.said
dumps_heap-status tells old new o (inr lacks) = refused-status o _ lacks.said

-- of either
shown-status : (tells : Bool) (old new : DiskState) (o : Output) (InSlots InHeap : Type 0) → (InSlots → o.status ≤ 1) → (InHeap → o.status ≤ 1)
    → ByLayout tells old o new InSlots InHeap → o.status ≤ 1
shown-status tells old new o InSlots InHeap by in_heap (inl shown) = by shown.1
shown-status tells old new o InSlots InHeap by in_heap (inr (inl shown)) = in_heap shown.1
shown-status tells old new o InSlots InHeap by in_heap (inr (inr lacks)) = refused-status o _ lacks.1

pub acts-status : (tells : Bool) (a : Action) (old new : DiskState) (input : Input) (o : Output) → Acts tells a old input o new → o.status ≤ 1
acts-status tells action.Example old new input o acts = runs_new-status tells old new input o acts
acts-status tells (action.Format dir layout) old new input o acts = makes-status tells old new layout o acts
acts-status tells (action.Run dir) old new input o acts = runs-status tells old new input o acts
acts-status tells (action.At dir key time) old new input o acts = at-status tells old new time (λ t. line.At key t) o acts
acts-status tells (action.Between dir key from to) old new input o acts = between-status tells old new from to (λ s t. line.Between key s t) o acts
acts-status tells (action.Ask dir asked style) old new input o acts = ask-status tells style old new asked o acts
acts-status tells (action.Write dir write) old new input o acts = writes-status tells old new write o acts
acts-status tells (action.Vacuum dir time) old new input o acts = upto-status tells old new time o acts
acts-status tells (action.Grow dir) old new input o acts = grows-status tells old new o acts
acts-status tells (action.Floor dir relation time) old new input o acts = raise-status tells old new relation time o acts
acts-status tells (action.Info dir json) old new input o acts =
    shown-status tells old new o (Tells tells old json o new) (TellsHeap tells old json o new ⊎ HasNoInfo tells old o new)
    (tells-status tells old new json o) (tells_heap-status tells old new json o) acts
acts-status tells (action.Dump dir) old new input o acts =
    shown-status tells old new o (Dumps tells old o new) (DumpsHeap tells old o new ⊎ HasNoDump tells old o new) (dumps-status tells old new o)
    (dumps_heap-status tells old new o) acts
acts-status tells (action.Stress writers readers rounds) old new input o acts = refused-status o [] acts.1
