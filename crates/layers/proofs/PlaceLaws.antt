-- The laws of the spares. Assumes nothing.
use Rattle.std.proofs.lemmas.Grind.{common_steps}
use Rattle.std.proofs.Common.{◌≡◌, ℕ, ◌+◌, ◌<◌, ◌≤◌, Bool, true, false, ltb, ◌⊎◌, List, length, get_or, replicate, ap, inl, inr, ⊎_elim, arith}
use Rattle.std.proofs.lemmas.Bool.{cond-true, cond-false, lt-ltb, ltb-true, and_parts, and_from, or_left, or_right, or_cases}
use Rattle.std.proofs.lemmas.Bool.Decides.{nat_tests}
use Rattle.layers.specs.declared.spare.Spare.{Spare}
use Rattle.layers.specs.declared.spare.Spare.TheVariants.{Free, Spent, Of}
use Rattle.layers.specs.Spared.{most_spares, is_of, is_free, retired, place_of, usable, next_spare, takes_by, moved_to, table_after, place_below}
use Rattle.layers.specs.Places.{CanServe, SpareLaws}
use Rattle.layers.proofs.Lows.{low_first, low_none, low_passes}
use Rattle.layers.proofs.Moves.{place_self, place_apart, after_write}

all_free : (n j : ℕ) → get_or (replicate n Free) j Free ≡ Free
all_free n j = grind (arith, common_steps, nat_tests)

unused_place : (k b p : ℕ) → place_of k b (replicate most_spares Free) p ≡ p
unused_place k b p =
    place_self k b (replicate most_spares Free) p
    (low_none (λ j. is_of p (get_or (replicate most_spares Free) j Free)) k (λ j. ap (is_of p) (all_free most_spares j)))

-- the spares that can serve, as the definitions test them
module _ (k b : ℕ) (table : List Spare) (t : ℕ → Bool) where
  serves : (j : ℕ) → CanServe k b table t j → usable b table t j ≡ true
  serves j c = and_from (is_free (get_or table j Free)) (t (b + j)) c.unused c.takes

  serves_next : next_spare k b table t < k → CanServe k b table t (next_spare k b table t)
  serves_next h =
      let both = and_parts (is_free (get_or table (next_spare k b table t) Free)) (t (b + next_spare k b table t)) (low_passes (usable b table t) k h) in
      record { within = h; unused = both.0; takes = both.1 }

  next_lowest : (j : ℕ) → CanServe k b table t j → next_spare k b table t ≤ j
  next_lowest j c = low_first (usable b table t) k j c.within (serves j c)

  takes_if : (p : ℕ) → takes_by k b table t p ≡ true → (t (place_of k b table p) ≡ true) ⊎ ((j : ℕ) × CanServe k b table t j)
  takes_if p e = ⊎_elim
      (λ y. inl y)
      (λ y. inr (next_spare k b table t, serves_next (ltb-true (next_spare k b table t) k y)))
      (or_cases (t (place_of k b table p)) (ltb (next_spare k b table t) k) e)

  takes_from : (p : ℕ) → (t (place_of k b table p) ≡ true) ⊎ ((j : ℕ) × CanServe k b table t j) → takes_by k b table t p ≡ true
  takes_from p = ⊎_elim
      (λ y. or_left (t (place_of k b table p)) (ltb (next_spare k b table t) k) y)
      (λ s. or_right (t (place_of k b table p)) (ltb (next_spare k b table t) k) (lt-ltb (next_spare k b table t) k (omega (arith, next_lowest s.0 s.1, s.1.within))))

-- a spare that is used
retired_used : (s : Spare) (p : ℕ) → is_free s ≡ false → is_free (retired p s) ≡ false
retired_used Free p e = e
retired_used Spent p e = e
retired_used (Of x) p e = grind (arith, nat_tests)

used_within : (table : List Spare) (j : ℕ) → is_free (get_or table j Free) ≡ false → j < length table
used_within table j e = grind (arith, common_steps, nat_tests)

used_moved : (table : List Spare) (n p j : ℕ) → is_free (get_or table j Free) ≡ false → is_free (get_or (moved_to table n p) j Free) ≡ false
used_moved table n p j e = grind (arith, common_steps, nat_tests)

used_after : (k b : ℕ) (table : List Spare) (t : ℕ → Bool) (p j : ℕ) → is_free (get_or table j Free) ≡ false → is_free (get_or (table_after k b table t p) j Free) ≡ false
used_after k b table t p j e = grind (arith, common_steps, nat_tests)

pub spare_laws : SpareLaws
spare_laws = record {
  first = unused_place;
  below = place_below;
  apart = place_apart;
  takes = takes_if;
  taken = takes_from;
  next = serves_next;
  lowest = next_lowest;
  stays = λ k b table t p y. cond-true (t (place_of k b table p)) _ _ y;
  moves = λ k b table t p y. cond-false (t (place_of k b table p)) _ _ y;
  after = λ k b table t p low long taken. after_write k b table t p low (λ _. long) taken;
  used = used_after;
}
