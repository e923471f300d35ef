-- A run goes on by one line.
use Rattle.std.proofs.Common.{subst, sym, ap, ◌∙◌, ◌≡◌, ℕ, ◌+◌, Bool, true, false, List, [], ◌∷◌, ◌++◌, refl, Option, Some, None, Ok, Err, append_assoc, inl}
use Rattle.std.proofs.Common.{inr}
use Rattle.std.specs.Prelude.{⊤, if◌then◌else◌, MatchOption, Result}
use Rattle.script.specs.declared.line.Line.{Line}
use Rattle.script.specs.declared.line.Line.TheVariants.{Reopen}
use Rattle.std.specs.Io.KnownBytes.{Appends, Keeps}
use Rattle.std.proofs.KnownBytes.{Appends-kept, Appends-nil, Appends-trans}
use Rattle.session.specs.Lines.{AreLines, Reads, lines_of}
use Rattle.session.specs.Run.{Answered, Answers, End, EndsBadly, IsCut, Run, Turn}
use Rattle.session.specs.Session.{State, Closes}
use Rattle.session.specs.Texts.{Text}
use Rattle.session.specs.declared.ending.Ending.TheVariants as ending

-- these lines of an input were read, where it is known
abbrev pub IsLeft : Option Text → List Text → Option Text → Type 0
IsLeft None read new = ⊤
IsLeft (Some xs) read None = ⊥
IsLeft (Some xs) read (Some ys) = lines_of xs ≡ read ++ lines_of ys

abbrev pub lines_left : Option Text → List Text
lines_left None = []
lines_left (Some xs) = lines_of xs

-- lines were read and answered, and whatever completes the run of the rest completes the run of all
pub record SoFar (tells : Bool) (i0 i : Option Text) (n0 n : ℕ) (s0 s : State) (w0 w : Option Text) : Type 0 where
  pub read : List Text
  pub out : Text
  pub left : IsLeft i0 read i
  pub written : Appends w0 w out
  pub goes : (rest : List Text) (more : Text) (end : End) → Run tells n s rest more end → Run tells n0 s0 (read ++ rest) (out ++ more) end

-- the run of an input's lines
abbrev pub Ran : Bool → ℕ → Option Text → State → Option Text → Option Text → End → Type 0
Ran tells n0 i0 s0 w0 w end = (lines : List Text) × (out : Text) × AreLines i0 lines × Run tells n0 s0 lines out end × Appends w0 w out

left-start : (i : Option Text) → IsLeft i [] i
left-start None = tt
left-start (Some xs) = refl

pub so_far_start : (tells : Bool) (i w : Option Text) (n : ℕ) (s : State) → SoFar tells i i n n s s w w
so_far_start tells i w n s = record { read = []; out = []; left = left-start i; written = Appends-nil w; goes = λ rest more end r. r }

-- giving out what was written changes nothing of that
pub so_far_kept : (tells : Bool) (i0 i w0 w v : Option Text) (n0 n : ℕ) (s0 s : State) → SoFar tells i0 i n0 n s0 s w0 w → Keeps w v
    → SoFar tells i0 i n0 n s0 s w0 v
so_far_kept tells i0 i w0 w v n0 n s0 s so kept =
    record { read = so.read; out = so.out; left = so.left; written = Appends-kept w0 w v so.out so.written kept; goes = so.goes }

left-next : (i0 i j : Option Text) (read : List Text) (line : Text) → IsLeft i0 read i → Reads i j true line → IsLeft i0 (read ++ line ∷ []) j
left-next None i j read line left reads = tt
left-next (Some x0) None j read line left reads = absurd left
left-next (Some x0) (Some xs) None read line left reads = absurd reads
left-next (Some x0) (Some xs) (Some ys) read line left reads =
    left ∙ ap (λ (l : List Text). read ++ l) reads ∙ sym (append_assoc read (line ∷ []) (lines_of ys))

are-left : (i0 i : Option Text) (read : List Text) → IsLeft i0 read i → AreLines i0 (read ++ lines_left i)
are-left None i read left = tt
are-left (Some x0) None read left = absurd left
are-left (Some x0) (Some xs) read left = sym left

are-all : (i0 i j : Option Text) (read : List Text) (line : Text) → IsLeft i0 read i → Reads i j false line → AreLines i0 (read ++ [])
are-all None i j read line left reads = tt
are-all (Some x0) None j read line left reads = absurd left
are-all (Some x0) (Some xs) None read line left reads = absurd reads
are-all (Some x0) (Some xs) (Some ys) read line left reads = sym (left ∙ ap (λ (t : Text). read ++ lines_of t) reads)

pub counted : (b : Bool) (new old : ℕ) → new ≡ (if b then old + 1 else old) → b ≡ true → new ≡ old + 1
counted true new old is yes' = is
counted false new old is yes' = absurd cc

-- a line more is answered
pub so_far_next : (tells : Bool) (i0 i j w0 w v : Option Text) (n0 n number m : ℕ) (s0 s t : State) (line slice : Text) (some : Bool)
    → SoFar tells i0 i n0 n s0 s w0 w → number ≡ n → m ≡ number + 1
    → Reads i j some line → some ≡ true → slice ≡ line → ((out : Text) × Turn tells number s slice out (Ok t) × Appends w v out)
    → SoFar tells i0 j n0 m s0 t w0 v
so_far_next tells i0 i j w0 w v n0 n number m s0 s t line slice some so is_n is_m reads is_some same turn =
    let first : Text = turn.0 in
    let on : Turn tells number s line first (Ok t) = subst (λ (l : Text). Turn tells number s l first (Ok t)) same turn.1 in
    let here : Turn tells n s line first (Ok t) = subst (λ (k : ℕ). Turn tells k s line first (Ok t)) is_n on in
    let next : m ≡ n + 1 = is_m ∙ ap (λ (k : ℕ). k + 1) is_n in
    record {
      read = so.read ++ line ∷ [];
      out = so.out ++ first;
      left = left-next i0 i j so.read line so.left (subst (λ (b : Bool). Reads i j b line) is_some reads);
      written = Appends-trans w0 w v so.out first so.written turn.2;
      goes = λ rest more end r.
          subst (λ (l : List Text). Run tells n0 s0 l ((so.out ++ first) ++ more) end) (sym (append_assoc so.read (line ∷ []) rest))
          (subst (λ (x : Text). Run tells n0 s0 (so.read ++ line ∷ rest) x end) (sym (append_assoc so.out first more))
          (so.goes (line ∷ rest) (first ++ more) end (inr (first, Ok t, here, (more, subst (λ (k : ℕ). Run tells k t rest more end) next r, refl)))));
    }

-- ---- how a run ends

ran-by : (tells : Bool) (i0 i w0 w v : Option Text) (n0 n : ℕ) (s0 s : State) (so : SoFar tells i0 i n0 n s0 s w0 w) (rest : List Text) (more : Text)
    (end : End)
    → AreLines i0 (so.read ++ rest) → Run tells n s rest more end → Appends w v more → Ran tells n0 i0 s0 w0 v end
ran-by tells i0 i w0 w v n0 n s0 s so rest more end are run written =
    (so.read ++ rest, so.out ++ more, are, so.goes rest more end run, Appends-trans w0 w v so.out more so.written written)

run-cut : (tells : Bool) (n : ℕ) (s : State) (lines : List Text) (end : End) → IsCut end.0 → Closes s end.1 → Run tells n s lines [] end
run-cut tells n s [] end cut closes = inl (refl, cut, closes)
run-cut tells n s (line ∷ rest) end cut closes = inl (refl, cut, closes)

-- the input or the output is refused before a line
pub ran-cut : (tells : Bool) (i0 i w0 w : Option Text) (n0 n : ℕ) (s0 s : State) (end : End) → SoFar tells i0 i n0 n s0 s w0 w → IsCut end.0 → Closes s end.1
    → Ran tells n0 i0 s0 w0 w end
ran-cut tells i0 i w0 w n0 n s0 s end so cut closes =
    ran-by tells i0 i w0 w w n0 n s0 s so (lines_left i) [] end (are-left i0 i so.read so.left) (run-cut tells n s (lines_left i) end cut closes)
    (Appends-nil w)

-- no line is left
pub ran-whole : (tells : Bool) (i0 i j w0 w : Option Text) (n0 n : ℕ) (s0 s : State) (line : Text) (some : Bool) (end : End) → SoFar tells i0 i n0 n s0 s w0 w
    → Reads i j some line → some ≡ false → end.0 ≡ ending.Whole → Closes s end.1 → Ran tells n0 i0 s0 w0 w end
ran-whole tells i0 i j w0 w n0 n s0 s line some end so reads is_none whole closes =
    ran-by tells i0 i w0 w w n0 n s0 s so [] [] end (are-all i0 i j so.read line so.left (subst (λ (b : Bool). Reads i j b line) is_none reads)) (inr (
      refl,
      whole,
      closes,
    )) (Appends-nil w)

-- a line ends the run
pub ran-end : (tells : Bool) (i0 i j w0 w v : Option Text) (n0 n number : ℕ) (s0 s : State) (line slice : Text) (some : Bool) (end : End)
    → SoFar tells i0 i n0 n s0 s w0 w → number ≡ n
    → Reads i j some line → some ≡ true → slice ≡ line → ((out : Text) × Turn tells number s slice out (Err end) × Appends w v out)
    → Ran tells n0 i0 s0 w0 v end
ran-end tells i0 i j w0 w v n0 n number s0 s line slice some end so is_n reads is_some same turn =
    let on : Turn tells number s line turn.0 (Err end) = subst (λ (l : Text). Turn tells number s l turn.0 (Err end)) same turn.1 in
    let here : Turn tells n s line turn.0 (Err end) = subst (λ (k : ℕ). Turn tells k s line turn.0 (Err end)) is_n on in
    let left : IsLeft i0 (so.read ++ line ∷ []) j = left-next i0 i j so.read line so.left (subst (λ (b : Bool). Reads i j b line) is_some reads) in
    ran-by tells i0 i w0 w v n0 n s0 s so (line ∷ lines_left j) turn.0 end
    (subst (λ (l : List Text). AreLines i0 l) (append_assoc so.read (line ∷ []) (lines_left j)) (are-left i0 j (so.read ++ line ∷ []) left))
    (inr (turn.0, Err end, here, (refl, refl))) turn.2

-- ---- one line

pub taken : (tells b : Bool) (n : ℕ) (s t : State) (line : Text) (w v : Option Text) → Answered tells b n s line t w v → b ≡ true → (out : Text)
    × Turn tells n s line out (Ok t) × Appends w v out
taken tells true n s t line w v answers is = answers
taken tells false n s t line w v answers is = absurd cc

pub not_taken : (tells b : Bool) (n : ℕ) (s t : State) (line : Text) (w v : Option Text) → Answered tells b n s line t w v → b ≡ false
    → Answered tells false n s line t w v
not_taken tells b n s t line w v answers is = subst (λ (x : Bool). Answered tells x n s line t w v) is answers

-- a line that is a `reopen`
pub reopen-turn : (tells : Bool) (n : ℕ) (s t : State) (line : Text) (w u v : Option Text) (next : Result State End) → Answered tells false n s line t w u
    → ((out : Text) × Answers tells t Reopen out next × Appends u v out) → (out : Text) × Turn tells n s line out next × Appends w v out
reopen-turn tells n s t line w u v next not answers =
    let here : Answers tells s Reopen answers.0 next = subst (λ (x : State). Answers tells x Reopen answers.0 next) not.1 answers.1 in (
      answers.0,
      subst (λ (o : Option Line). MatchOption o (EndsBadly n s answers.0 next) (λ x. Answers tells s x answers.0 next)) (sym not.0) here,
      subst (λ (x : Option Text). Appends x v answers.0) not.2 answers.2,
    )
