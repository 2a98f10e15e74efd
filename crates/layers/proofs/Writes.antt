-- What a write makes of a store with spares. Assumes nothing.
use Rattle.std.proofs.Common.{◌≡◌, ℕ, ◌+◌, ◌-◌, ◌<◌, ◌≤◌, Bool, true, false, cond, List, length, take, is_ok, Some, None, Ok, Err, Option, sym, refl, ap, ◌∙◌, subst, arith}
use Rattle.std.specs.Option.{MatchOption}
use Rattle.std.proofs.lemmas.List.{length-take-le}
use Rattle.std.proofs.lemmas.Bool.{both_ways, cond-true, cond-false, lt-ltb, le-ltb, or_left, or_right, or_from}
use Rattle.cells.specs.declared.fault.StoreFault.TheVariants.{Worn}
use Rattle.cells.specs.Meaning.{Meaning}
use Rattle.cells.specs.Calls.{Answer, Becomes, Written, WroteBy, accepts}
use Rattle.cells.proofs.Answered.{answer_at, accepted_by, written_if, same_unless}
use Rattle.layers.specs.declared.spare.Spare.{Spare}
use Rattle.layers.specs.Lowest.{found}
use Rattle.layers.specs.Spared.{kept, place_of, next_spare, takes_by, target, moved_to, table_after, accepting, spared, held_by, left_by, spares, place_below}
use Rattle.layers.proofs.Moves.{found_some, found_none, next_front, takes_same, after_write}
use Rattle.layers.proofs.Told.{told_below}

-- whether the layer accepts a write hangs on which cells below accept it
accepts-spared : (k b : ℕ) (table : List Spare) (m : Meaning) (p : ℕ) (bytes : List ℕ) → accepts (spared k b table m) p bytes ≡ takes_by k b table (accepting m bytes) p
accepts-spared k b table m p bytes = refl

-- the cell that the write goes to below takes it
module _ (k b : ℕ) (table : List Spare) (m n : Meaning) (p : ℕ) (bytes : List ℕ) (whole : b + k ≡ m.count) (low : p < b)
    (long : accepting m bytes (place_of k b table p) ≡ false → k ≤ length table) (taken : takes_by k b table (accepting m bytes) p ≡ true) where
  written_spared : Written m (target k b table (accepting m bytes) p) bytes n → Written (spared k b table m) p bytes (spared k b (table_after k b table (accepting m bytes) p) n)
  written_spared w =
      let after = after_write k b table (accepting m bytes) p low long taken in
      record {
        count = refl;
        size = w.size;
        here = ap n.cell after.here ∙ w.here;
        others = λ q hq ne. ap n.cell (after.others q hq ne).0 ∙ w.others (place_of k b table q) (omega (arith, place_below k b table q hq)) (after.others q hq ne).1;
        wear = λ t e q hq.
            let then : List Spare = table_after k b table (accepting m bytes) p in
            let told = told_below (takes_by k b then) (m.after (target k b table (accepting m bytes) p) bytes) t e in
            takes_same k b then n.takes told.0 (λ y hy. w.wear told.0 told.1 y (omega arith)) q hq ∙ ap (λ (v : ℕ → Bool). v q) told.2;
      }

-- a write to cell p of a layer that asked for `held` spares: what the layer means then, where it went below, and what the table is
pub record Wrote (held : ℕ) (table : List Spare) (m : Meaning) (p : ℕ) (bytes : List ℕ) (r : Answer) (then : List Spare) (n : Meaning) : Type 0 where
  pub store : WroteBy (spares held table m) p bytes r (spares held then n)
  pub below : Becomes m (target (held_by held m) (left_by held m) table (accepting m bytes) p) bytes r n
  pub changed : then ≡ cond (is_ok r) (table_after (held_by held m) (left_by held m) table (accepting m bytes) p) table

-- the same count leaves the spares where they are
spares_at : (held c : ℕ) (table : List Spare) (n : Meaning) → n.count ≡ c → spared (kept held c) (c - kept held c) table n ≡ spares held table n
spares_at held c table n e = ap (λ c. spared (kept held c) (c - kept held c) table n) (sym e)

-- a write that the layer makes, its place and length being right
module _ (held : ℕ) (table : List Spare) (m : Meaning) (p : ℕ) (bytes : List ℕ) (low : p < left_by held m) (short : length bytes ≤ m.size) where
  abbrev k : ℕ
  k = held_by held m

  abbrev b : ℕ
  b = left_by held m

  abbrev accepted : ℕ → Bool
  accepted = accepting m bytes

  -- the cell that it goes to below took it
  wrote_ok : (at : ℕ) (then : List Spare) (n : Meaning) → (accepted (place_of k b table p) ≡ false → k ≤ length table) → takes_by k b table accepted p ≡ true
      → at ≡ target k b table accepted p → then ≡ table_after k b table accepted p → Written m at bytes n → Wrote held table m p bytes (Ok tt) then n
  wrote_ok at then n long taken is_at is_then w =
      let there = subst (λ x. Written m x bytes n) is_at w in
      subst (λ x. Wrote held table m p bytes (Ok tt) x n) (sym is_then) (record {
        store = record {
          answer = sym (answer_at (spares held table m) p bytes low short ∙ cond-true (accepts (spares held table m) p bytes) _ _ (accepts-spared k b table m p bytes ∙ taken));
          becomes = subst (λ x. Written (spares held table m) p bytes x) (spares_at held m.count (table_after k b table accepted p) n w.count) (written_spared k b table m n p bytes (omega arith) low long taken there);
        };
        below = there;
        changed = refl;
      })

  -- the cell lies at `at`
  module _ (at : ℕ) (is_at : at ≡ place_of k b table p) (first : Meaning) (r : Answer) (w : WroteBy m at bytes r first) where
    by_place : is_ok r ≡ accepted (place_of k b table p)
    by_place = accepted_by m first at bytes r w (omega (arith, place_below k b table p low)) short ∙ ap accepted is_at

    -- where it is taken
    pub wrote_here : is_ok r ≡ true → Wrote held table m p bytes (Ok tt) table first
    wrote_here ok =
        let yes : accepted (place_of k b table p) ≡ true = sym by_place ∙ ok in
        wrote_ok at table first (λ no. absurd (both_ways (accepted (place_of k b table p)) no yes)) (or_left _ _ yes) (is_at ∙ sym (cond-true _ _ _ yes)) (sym (cond-true _ _ _ yes)) (written_if m first at bytes r w ok)

    -- where it is not, and the spares were tried, with the numbers that were worked out for k and b
    module _ (refused : is_ok r ≡ false) (spare_count base : ℕ) (is_k : spare_count ≡ held_by held first) (is_b : base ≡ left_by held first) (long : spare_count ≤ length table) (n : Meaning)
        (tried : Option ℕ) (which : tried ≡ found (length (take spare_count table)) (next_spare (length (take spare_count table)) base (take spare_count table) (accepting first bytes)))
        (became : MatchOption tried (n ≡ first) (λ j. Written first (base + j) bytes n)) where
      same : first ≡ m
      same = same_unless m first at bytes r w refused

      no : accepted (place_of k b table p) ≡ false
      no = sym by_place ∙ refused

      k_is : spare_count ≡ k
      k_is = is_k ∙ ap (held_by held) same

      b_is : base ≡ b
      b_is = is_b ∙ ap (left_by held) same

      next_is : next_spare (length (take spare_count table)) base (take spare_count table) (accepting first bytes) ≡ next_spare k b table accepted
      next_is =
          next_front spare_count base table long (accepting first bytes)
          ∙ ap (λ x. next_spare x base table (accepting first bytes)) k_is
          ∙ ap (λ x. next_spare k x table (accepting first bytes)) b_is
          ∙ ap (λ (f : Meaning). next_spare k b table (accepting f bytes)) same

      pub wrote_spare : (j : ℕ) → tried ≡ Some j → (then : List Spare) → then ≡ moved_to table j p → Wrote held table m p bytes (Ok tt) then n
      wrote_spare j is then is_then =
          let h = found_some _ _ j (sym is ∙ which) in
          let is_j : j ≡ next_spare k b table accepted = sym h.1 ∙ next_is in
          let took : Written first (base + j) bytes n = subst (λ o. MatchOption o (n ≡ first) (λ j. Written first (base + j) bytes n)) is became in
          wrote_ok (base + j) then n (λ _. omega (arith, k_is)) (or_right _ _ (lt-ltb (next_spare k b table accepted) k (omega (arith, next_is, h.0, k_is, length-take-le spare_count table long))))
          (ap (λ x. x + j) b_is ∙ ap (λ i. b + i) is_j ∙ sym (cond-false _ _ _ no)) (is_then ∙ ap (λ i. moved_to table i p) is_j ∙ sym (cond-false _ _ _ no)) (subst (λ f. Written f (base + j) bytes n) same took)

      pub wrote_nowhere : tried ≡ None → (x : Answer) → x ≡ Err (Worn p) → Wrote held table m p bytes x table n
      wrote_nowhere is x is_x =
          let back : n ≡ first = subst (λ o. MatchOption o (n ≡ first) (λ j. Written first (base + j) bytes n)) is became in
          let over = found_none _ _ (sym is ∙ which) in
          subst (λ x. Wrote held table m p bytes x table n) (sym is_x) (record {
            store = record {
              answer = sym (answer_at (spares held table m) p bytes low short ∙ cond-false (accepts (spares held table m) p bytes) _ _
                  (accepts-spared k b table m p bytes ∙ or_from _ _ no (le-ltb (next_spare k b table accepted) k (omega (arith, next_is, k_is, length-take-le spare_count table long, over)))));
              becomes = ap (spares held table) (back ∙ same);
            };
            below = back ∙ same;
            changed = refl;
          })
