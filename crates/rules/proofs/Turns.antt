-- What a turn of the loops does. Assumes nothing.
use Rattle.std.specs.Prelude.{◌≡◌, ℕ, zero, suc, ◌-◌, ◌%◌, ◌^◌, ◌<◌, ◌≤◌, Bool, true, false, List, slice_set}
use Rattle.std.proofs.Common.{sym, ap, ◌∙◌, arith}
use Rattle.std.proofs.lemmas.Bool.{cond-true, cond-false, lt-ltb, le-ltb}
use Rattle.rules.specs.Draws.{step, width, within, draw, drawn, draws}
use Rattle.rules.specs.Bound.{rejected}
use Rattle.rules.proofs.Rejecting.{by_next, few_after, step_below, rejected_in, rejected_out}

pub draw_in : (most m x : ℕ) → within m (step x) ≡ true → draw (suc most) m x ≡ step x
unfolding draw
draw_in most m x t = cond-true (within m (step x)) (step x) (draw most m (step x)) t

pub draw_out : (most m x : ℕ) → within m (step x) ≡ false → draw (suc most) m x ≡ draw most m (step x)
unfolding draw
draw_out most m x t = cond-false (within m (step x)) (step x) (draw most m (step x)) t

-- where a draw has ended, one value more does not matter
draw_enough : (most m x : ℕ) → rejected most m x < most → draw most m x ≡ draw (suc most) m x
draw_enough zero m x h = absurd (omega arith)
draw_enough (suc most) m x h =
    by_next m x
    (λ e. draw_in most m x e ∙ sym (draw_in (suc most) m x e))
    (λ e. draw_out most m x e ∙ draw_enough most m (step x) (omega (arith, rejected_out most m x e)) ∙ sym (draw_out (suc most) m x e))

rejected_enough : (most m x : ℕ) → rejected most m x < most → rejected most m x ≡ rejected (suc most) m x
rejected_enough zero m x h = absurd (omega arith)
rejected_enough (suc most) m x h =
    by_next m x
    (λ e. rejected_in most m x e ∙ sym (rejected_in (suc most) m x e))
    (λ e. rejected_out most m x e ∙ ap suc (rejected_enough most m (step x) (omega (arith, rejected_out most m x e))) ∙ sym (rejected_out (suc most) m x e))

draw_below : (most m x : ℕ) → x < 2 ^ 24 → draw most m x < 2 ^ 24
unfolding draw
draw_below zero m x h = h
draw_below (suc most) m x h =
    by_next m x
    (λ e. omega (arith, draw_in most m x e, step_below x h))
    (λ e. omega (arith, draw_out most m x e, draw_below most m (step x) (step_below x h)))

pub drawn_below : (m x : ℕ) → x < 2 ^ 24 → drawn m x < 2 ^ 24
unfolding drawn
drawn_below m x h = draw_below 21 m x h

-- ## The loop of a draw

-- the next value is within: the draw ends
pub drawn_in : (m x : ℕ) → step x % width m < m → drawn m x ≡ step x
unfolding drawn within
drawn_in m x t = draw_in 20 m x (lt-ltb (step x % width m) m t)

module _ (m x : ℕ) (h4 : 4 ≤ m) (h : m ≤ 256) (below : x < 2 ^ 24) (t : m ≤ step x % width m) where
  out : within m (step x) ≡ false
  unfolding within
  out = le-ltb (step x % width m) m t

  few_more : rejected 20 m (step x) ≤ 19
  few_more = few_after 20 m x h4 h below out

  -- it falls out: the draw goes on from there
  pub drawn_out : drawn m x ≡ drawn m (step x)
  unfolding drawn
  drawn_out = draw_out 20 m x out ∙ draw_enough 20 m (step x) (omega (arith, few_more))

  -- and fewer are left that fall out
  pub fewer_left : rejected 21 m (step x) < rejected 21 m x
  fewer_left = omega (arith, rejected_out 20 m x out, rejected_enough 20 m (step x) (omega (arith, few_more)), few_more)

-- ## The loop of the draws

pub draws_none : (left m x : ℕ) (marks : List Bool) → left ≡ 0 → draws left m x marks ≡ marks
unfolding draws
draws_none left m x marks e = rw e

pub draws_more : (left m x : ℕ) (marks : List Bool) → 0 < left → draws left m x marks ≡ draws (left - 1) m (drawn m x) (slice_set marks (drawn m x % width m) true)
unfolding draws
draws_more zero m x marks h = absurd (omega arith)
draws_more (suc left) m x marks h = let one : suc left - 1 ≡ left = omega arith in rw one
