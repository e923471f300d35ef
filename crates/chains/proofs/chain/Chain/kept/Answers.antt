use Rattle.std.proofs.Common.{◌≡◌, ◌∙◌, ◌<◌, [], ◌∷◌, ◌++◌, List, length, subst, ap, sym, refl}
use Rattle.chains.specs.KeyWrites.{KeyWrites, unless_empty}
use Rattle.chains.specs.Chunks.{held}
use Rattle.chains.specs.Writes.{Write, kept_after}
use Rattle.chains.proofs.Order.{unless_empty-some}
use Rattle.chains.proofs.Parts.{rising-back, rising-later, kept_older, older-rising, kept-chunk}
use Rattle.chains.proofs.Rising.{kept_after-rising}
use Rattle.chains.proofs.chain.Chain.kept.Goals as goal

pub of-kept-requires : goal.of-kept-requires
of-kept-requires c =
    let older = c.self.inside.older.chunks in
    let last = c.self.inside.last in
    let later =
    rising-later c.args.mark last c.first_time.ensures.some (rw c.first_time.ensures.is at c.if-mark-first_time.true)
    (rising-back 0 older last c.self.invariant) in
    rw (c.in_ok-older.ensures.is, c.in_ok-share-2.ensures) (older-rising c.args.mark older last later c.self.invariant)

pub returns-then-mark-first_time : goal.returns-then-mark-first_time
returns-then-mark-first_time c =
    let older = c.self.inside.older.chunks in
    let last = c.self.inside.last in
    let later =
    rising-later c.args.mark last c.first_time.ensures.some (rw c.first_time.ensures.is at c.if-mark-first_time.true)
    (rising-back 0 older last c.self.invariant) in
    let left : c.of-kept.result ≡ record { key = c.self.inside.key; writes = kept_after c.args.mark older ++ last } =
    rw (c.of-kept.ensures, c.in_ok-older.ensures.is, c.in_ok-share-2.ensures) refl in
    subst (λ (k : KeyWrites). c.of-kept.result ∷ [] ≡ unless_empty k.key (kept_after c.args.mark k.writes)) c.self.view_is
    (ap (λ (k : KeyWrites). k ∷ []) left ∙ sym (kept_older c.args.mark c.self.inside.key older last c.first_time.ensures.some later))

pub returns-in-None : goal.returns-in-None
returns-in-None c =
    let older = c.self.inside.older.chunks in
    let last = c.self.inside.last in
    let same : [] ≡ kept_after c.args.mark last = ap held (sym c.in-None.is) ∙ c.in_ok-kept.ensures.is in
    let by = kept-chunk c.args.mark older last c.first_time.ensures.some (rw c.first_time.ensures.is at c.if-mark-first_time.false) c.self.invariant in
    subst (λ (k : KeyWrites). [] ≡ unless_empty k.key (kept_after c.args.mark k.writes)) c.self.view_is
    (ap (λ (ws : List Write). unless_empty c.self.inside.key ws) (same ∙ sym by))

pub of-requires : goal.of-requires
of-requires c =
    let older = c.self.inside.older.chunks in
    let last = c.self.inside.last in
    let same : c.in-Some.last ≡ kept_after c.args.mark last = ap held (sym c.in-Some.is) ∙ c.in_ok-kept.ensures.is in
    rw (c.new.ensures, same) (kept_after-rising 0 c.args.mark last (rising-back 0 older last c.self.invariant))

pub returns-in-Some : goal.returns-in-Some
returns-in-Some c =
    let older = c.self.inside.older.chunks in
    let last = c.self.inside.last in
    let same : c.in-Some.last ≡ kept_after c.args.mark last = ap held (sym c.in-Some.is) ∙ c.in_ok-kept.ensures.is in
    let some : 0 < length c.in-Some.last = rw c.in-Some.is at c.in_ok-kept.ensures.some in
    let by = kept-chunk c.args.mark older last c.first_time.ensures.some (rw c.first_time.ensures.is at c.if-mark-first_time.false) c.self.invariant in
    let left : c.of-in-Some.result ≡ record { key = c.self.inside.key; writes = c.in-Some.last } = rw (c.of-in-Some.ensures, c.new.ensures) refl in
    subst (λ (k : KeyWrites). c.of-in-Some.result ∷ [] ≡ unless_empty k.key (kept_after c.args.mark k.writes)) c.self.view_is
    (ap (λ (k : KeyWrites). k ∷ []) left
    ∙ sym (ap (λ (ws : List Write). unless_empty c.self.inside.key ws) (by ∙ sym same) ∙ unless_empty-some c.self.inside.key c.in-Some.last some))
