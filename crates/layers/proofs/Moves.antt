-- Where the cells lie, before and after a write to one of them. Assumes nothing.
use Rattle.std.proofs.Common.{◌≡◌, ℕ, ◌+◌, ◌<◌, ◌≤◌, Bool, true, false, cond, ◌&&◌, ◌||◌, ltb, List, map, length, get_or, take, Some, None, sym, refl, ap, ◌∙◌, ⊎_elim, arith}
use Rattle.std.proofs.lemmas.List.{get_or-set_same, get_or-set_other, get_or-map, get_or-take, length-map, length-take-le}
use Rattle.std.proofs.lemmas.Bool.Decides.{nat_tests}
use Rattle.std.proofs.lemmas.Bool.{cond-true, cond-false, both_ways, lt-ltb, le-ltb, ltb-true, eq-eqb, and_parts, or_cases}
use Rattle.layers.specs.declared.spare.Spare.{Spare}
use Rattle.layers.specs.declared.spare.Spare.TheVariants.{Free, Spent, Of}
use Rattle.layers.specs.Spared.{is_of, is_free, retired, own_spare, place_of, usable, next_spare, takes_by, target, moved_to, table_after, place_below}
use Rattle.layers.specs.Lowest.{found}
use Rattle.layers.specs.Places.{After}
use Rattle.layers.proofs.Lows.{low_passes, low_same, low_only}

-- one spare
one_cell : (s : Spare) (p q : ℕ) → is_of p s ≡ true → is_of q s ≡ true → q ≡ p
one_cell Free p q a b = grind arith
one_cell Spent p q a b = grind arith
one_cell (Of x) p q a b = grind (arith, nat_tests)

free_of : (s : Spare) (q : ℕ) → is_free s ≡ true → is_of q s ≡ false
free_of Free q e = refl
free_of Spent q e = grind arith
free_of (Of x) q e = grind arith

retired_own : (s : Spare) (p : ℕ) → is_of p (retired p s) ≡ false
retired_own Free p = refl
retired_own Spent p = refl
retired_own (Of x) p = grind (arith, nat_tests)

retired_other : (s : Spare) (p q : ℕ) → (q ≡ p → ⊥) → is_of q (retired p s) ≡ is_of q s
retired_other Free p q ne = refl
retired_other Spent p q ne = refl
retired_other (Of x) p q ne = grind (arith, nat_tests)

-- the place of a cell
pub place_own : (k b : ℕ) (table : List Spare) (p : ℕ) → own_spare k table p < k → place_of k b table p ≡ b + own_spare k table p
unfolding place_of
place_own k b table p h = cond-true (ltb (own_spare k table p) k) _ _ (lt-ltb (own_spare k table p) k h)

pub place_self : (k b : ℕ) (table : List Spare) (p : ℕ) → k ≤ own_spare k table p → place_of k b table p ≡ p
unfolding place_of
place_self k b table p h = cond-false (ltb (own_spare k table p) k) _ _ (le-ltb (own_spare k table p) k h)

place_same : (k b : ℕ) (table other : List Spare) (p : ℕ) → own_spare k other p ≡ own_spare k table p → place_of k b other p ≡ place_of k b table p
unfolding place_of
place_same k b table other p e = ap (λ o. cond (ltb o k) (b + o) p) e

-- what a search finds
pub found_some : (k n j : ℕ) → Some j ≡ found k n → (n < k) × (n ≡ j)
found_some k n j e = grind (arith, nat_tests)

pub found_none : (k n : ℕ) → None ≡ found k n → k ≤ n
found_none k n e = grind (arith, nat_tests)

-- the front of the table has the same spares
module _ (k b : ℕ) (table : List Spare) (long : k ≤ length table) where
  pub own_front : (p : ℕ) → own_spare (length (take k table)) (take k table) p ≡ own_spare k table p
  own_front p = ap (λ n. own_spare n (take k table) p) (length-take-le k table long) ∙ low_same _ _ k (λ i h. ap (is_of p) (get_or-take k table i Free h))

  pub next_front : (t : ℕ → Bool) → next_spare (length (take k table)) b (take k table) t ≡ next_spare k b table t
  next_front t = ap (λ n. next_spare n b (take k table) t) (length-take-le k table long) ∙ low_same _ _ k (λ i h. ap (λ s. is_free s && t (b + i)) (get_or-take k table i Free h))

  pub place_some : (p own : ℕ) → Some own ≡ found (length (take k table)) (own_spare (length (take k table)) (take k table) p) → b + own ≡ place_of k b table p
  place_some p own e =
      let h = found_some _ _ _ e in
      omega (arith, own_front p, length-take-le k table long, h.0, h.1, place_own k b table p (omega (arith, own_front p, length-take-le k table long, h.0)))

  pub place_none : (p : ℕ) → None ≡ found (length (take k table)) (own_spare (length (take k table)) (take k table) p) → p ≡ place_of k b table p
  place_none p e = sym (place_self k b table p (omega (arith, own_front p, length-take-le k table long, found_none _ _ e)))

-- with k spares from b on
module _ (k b : ℕ) (table : List Spare) where
  -- two cells have two places
  pub place_apart : (p q : ℕ) → p < b → q < b → (q ≡ p → ⊥) → place_of k b table q ≡ place_of k b table p → ⊥
  place_apart p q hp hq ne same =
      grind (
        arith,
        nat_tests,
        place_own k b table p,
        place_own k b table q,
        place_self k b table p,
        place_self k b table q,
        low_passes (λ j. is_of p (get_or table j Free)) k,
        low_passes (λ j. is_of q (get_or table j Free)) k,
        one_cell (get_or table (own_spare k table p) Free) p q,
      )

  -- which cells take a write hangs on the cells below alone
  pub takes_same : (t u : ℕ → Bool) → ((y : ℕ) → y < b + k → t y ≡ u y) → (q : ℕ) → q < b → takes_by k b table t q ≡ takes_by k b table u q
  takes_same t u all q hq =
      ap (λ x. x || ltb (next_spare k b table t) k) (all (place_of k b table q) (place_below k b table q hq))
      ∙ ap (λ n. u (place_of k b table q) || ltb n k) (low_same _ _ k (λ i hi. ap (λ x. is_free (get_or table i Free) && x) (all (b + i) (omega arith))))

-- the spare j, unused so far, becomes the place of cell p
module _ (k b : ℕ) (table : List Spare) (p j : ℕ) (within : j < k) (long : k ≤ length table) (unused : is_free (get_or table j Free) ≡ true) where
  at_j : get_or (moved_to table j p) j Free ≡ Of p
  at_j = get_or-set_same (map (retired p) table) j (Of p) Free (omega (arith, length-map table (retired p)))

  at_other : (i : ℕ) → i < k → (i ≡ j → ⊥) → get_or (moved_to table j p) i Free ≡ retired p (get_or table i Free)
  at_other i hi ne = get_or-set_other (map (retired p) table) j i (Of p) Free ne ∙ get_or-map (retired p) table i Free Free (omega arith)

  own_moved : own_spare k (moved_to table j p) p ≡ j
  own_moved = low_only (λ i. is_of p (get_or (moved_to table j p) i Free)) k j within (ap (is_of p) at_j ∙ eq-eqb p p refl)
      (λ i hi e. grind (arith, nat_tests, at_other i hi, retired_own (get_or table i Free) p))

  own_kept : (q : ℕ) → (q ≡ p → ⊥) → own_spare k (moved_to table j p) q ≡ own_spare k table q
  own_kept q ne = low_same _ _ k (λ i hi. grind (arith, nat_tests, at_j, at_other i hi, free_of (get_or table j Free) q unused, retired_other (get_or table i Free) p q ne))

  place_moved : place_of k b (moved_to table j p) p ≡ b + j
  place_moved = place_own k b (moved_to table j p) p (omega (arith, own_moved)) ∙ ap (λ o. b + o) own_moved

  place_kept : (q : ℕ) → (q ≡ p → ⊥) → place_of k b (moved_to table j p) q ≡ place_of k b table q
  place_kept q ne = place_same k b table (moved_to table j p) q (own_kept q ne)

  apart_from_free : (q : ℕ) → q < b → place_of k b table q ≡ b + j → ⊥
  apart_from_free q hq same = grind (arith, nat_tests, place_own k b table q, place_self k b table q, free_of (get_or table j Free) q unused, low_passes (λ j. is_of q (get_or table j Free)) k)

-- a write to cell p that is taken, where t tells which cells below take it
module _ (k b : ℕ) (table : List Spare) (t : ℕ → Bool) (p : ℕ) (low : p < b) (long : t (place_of k b table p) ≡ false → k ≤ length table) (taken : takes_by k b table t p ≡ true) where
  pub after_write : After k b table p (target k b table t p) (table_after k b table t p)
  after_write = by (t (place_of k b table p)) refl where
    free : t (place_of k b table p) ≡ false → (next_spare k b table t < k) × (is_free (get_or table (next_spare k b table t) Free) ≡ true)
    free e =
        let under : next_spare k b table t < k = ⊎_elim
        (λ y. absurd (both_ways (t (place_of k b table p)) e y))
        (λ y. ltb-true (next_spare k b table t) k y)
        (or_cases (t (place_of k b table p)) (ltb (next_spare k b table t) k) taken) in
        (under, (and_parts _ _ (low_passes (usable b table t) k under)).0)

    by : (x : Bool) → t (place_of k b table p) ≡ x → After k b table p (cond x (place_of k b table p) (b + next_spare k b table t)) (cond x table (moved_to table (next_spare k b table t) p))
    by true e = record {
      here = refl;
      others = λ q hq ne. (refl, place_apart k b table p q low hq ne);
    }
    by false e = record {
      here = place_moved k b table p (next_spare k b table t) (free e).0 (long e) (free e).1;
      others = λ q hq ne. (place_kept k b table p (next_spare k b table t) (free e).0 (long e) (free e).1 q ne, apart_from_free k b table p (next_spare k b table t) (free e).0 (long e) (free e).1 q hq);
    }
