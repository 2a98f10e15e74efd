-- The bound, in the words of the rule. Assumes nothing.
use Rattle.std.proofs.Common.{◌≡◌, ℕ, zero, suc, ◌%◌, ◌^◌, ◌<◌, ◌≤◌, false, ap, ◌∙◌, arith}
use Rattle.std.proofs.lemmas.Bool.{le-ltb, ltb-true, ltb-false}
use Rattle.rules.specs.Draws.{step, width, within, draw, drawn, seed}
use Rattle.rules.specs.Bound.{RegisterSmall, Bounded, rejected, reached, after, FewRejected, NoLongRun, DrawsTheFirst}
use Rattle.rules.proofs.Rejecting.{by_next, few, rejected_none, rejected_out}
use Rattle.rules.proofs.Turns.{drawn_below, draw_in, draw_out}

reached-below : (count m x : ℕ) → x < 2 ^ 24 → reached count m x < 2 ^ 24
unfolding reached
reached-below zero m x h = h
reached-below (suc count) m x h = reached-below count m (drawn m x) (drawn_below m x h)

pub register_small : RegisterSmall
register_small m n count above last = reached-below count m (seed m n) (omega arith)

pub few_rejected : FewRejected 20
few_rejected m n count most h4 h above last = few most m (reached count m (seed m n)) h4 h (register_small m n count above last)

all_rejected : (most m x : ℕ) → ((j : ℕ) → 1 ≤ j → j ≤ most → m ≤ after j x % width m) → rejected most m x ≡ most
unfolding after within
all_rejected zero m x all = rejected_none m x
all_rejected (suc most) m x all =
    let first : within m (step x) ≡ false = le-ltb (step x % width m) m (all 1 (omega arith) (omega arith)) in
    rejected_out most m x first ∙ ap suc (all_rejected most m (step x) (λ j lo hi. all (suc j) (omega arith) (omega arith)))

pub no_long_run : NoLongRun 20
no_long_run m x h4 h below all = omega (arith, few 21 m x h4 h below, all_rejected 21 m x all)

abbrev First : ℕ → ℕ → ℕ → ℕ → Type 0
First most m x j =
    (j < most) × (draw most m x ≡ after (suc j) x) × (after (suc j) x % width m < m) × ((i : ℕ) → i < j → m ≤ after (suc i) x % width m)

-- one value that falls out, before those that do
before : (m x j : ℕ) → m ≤ step x % width m → ((i : ℕ) → i < j → m ≤ after (suc i) (step x) % width m) → (i : ℕ) → i < suc j → m ≤ after (suc i) x % width m
unfolding after
before m x j out rest zero h = out
before m x j out rest (suc i) h = rest i (omega arith)

first : (most m x : ℕ) → rejected most m x < most → (j : ℕ) × First most m x j
unfolding after within
first zero m x h = absurd (omega arith)
first (suc most) m x h =
    by_next m x
    (λ e. (0, (omega arith, draw_in most m x e, ltb-true (step x % width m) m e, λ i lt. absurd (omega arith))))
    (λ e.
    let next = first most m (step x) (omega (arith, rejected_out most m x e)) in
    let out = ltb-false (step x % width m) m e in
    (suc next.0, (omega (arith, next.1.0), draw_out most m x e ∙ next.1.1, next.1.2, before m x next.0 out next.1.3)))

pub draws_the_first : DrawsTheFirst 20
unfolding drawn
draws_the_first m x h4 h below =
    let f = first 21 m x (omega (arith, few 21 m x h4 h below)) in
    (f.0, omega (arith, f.1.0), f.1.1, f.1.2, f.1.3)

pub bounded : Bounded 20
bounded = record { few = few_rejected; register = register_small; run = no_long_run; first = draws_the_first }
