-- Lines that stand for the blocks that agree with what was accepted. Assumes nothing.
use Rattle.std.proofs.Common.{◌≡◌, ℕ, zero, suc, ◌<◌, false, List, [], ◌∷◌, map, length, replicate, sym, refl, ap, ◌∙◌, subst, suc-ne-zero}
use lib.ListN.{length-replicate}
use Rattle.std.specs.List.{AllByRecursion}
use Rattle.coding.specs.Rows.{Row}
use Rattle.coding.specs.Blocks.{zeros, xors, coded, Bytes, IsBlock}
use Rattle.coding.specs.Agreement.{Equation, Proper, LeastFurther, SomeBlock, OnlyBlock}
use Rattle.coding.specs.Lines.{Slot, Slot.empty, Slot.filled, missing, Fits, Sound, Outcome, Outcome.dependent, Outcome.into, arrive, settle}
use Rattle.coding.specs.Theorems.{StandsFor, Reached, Reached.start, Reached.known, Reached.taken}
use Rattle.coding.proofs.Placing.{Whole, Inserted, inserted}
use Rattle.coding.proofs.Settling.{Whole-settle, Fits-settle}
use Rattle.coding.proofs.Counting.{free, length-free, rows_free, pinned, no_fewer}
use Rattle.coding.proofs.ByteSpaces.{byte_space, one, one_bytes, one_apart}

start_sound : (s m : ℕ) → Sound (Bytes s) (replicate m empty)
start_sound s zero = tt
start_sound s (suc m) = start_sound s m

start_fits : (s m : ℕ) (b : List (List ℕ)) → Fits (zeros s) xors (replicate m empty) b
start_fits s zero b = tt
start_fits s (suc m) [] = tt
start_fits s (suc m) (f ∷ b) = start_fits s m b

pub kept_start : (m s : ℕ) → StandsFor m s [] (replicate m empty)
kept_start m s =
    record { size = length-replicate m empty; sound = start_sound s m; same = λ b h. (λ x. start_fits s m b, λ x. tt) }

module _ {m s : ℕ} {accepted : List (Equation (List ℕ))} {ls : List (Slot (List ℕ))} (k : StandsFor m s accepted ls) where
  whole : (b : List (List ℕ)) → IsBlock m s b → Whole (byte_space s) ls b
  whole b h = (h.0 ∙ sym k.size, h.1)

  block : (b : List (List ℕ)) → Whole (byte_space s) ls b → IsBlock m s b
  block b h = (h.0 ∙ k.size, h.1)

  pub arrived : (a : Equation (List ℕ)) → Proper m s a → Inserted (byte_space s) ls a.row a.bytes (arrive ls a)
  arrived a p = inserted (byte_space s) ls a.row a.bytes k.sound (p.0 ∙ sym k.size) p.1

  pub kept_known : (a : Equation (List ℕ)) → Proper m s a → arrive ls a ≡ dependent (zeros s) → StandsFor m s (a ∷ accepted) ls
  kept_known a p e =
      let x : Inserted (byte_space s) ls a.row a.bytes (dependent (zeros s)) =
      subst (Inserted (byte_space s) ls a.row a.bytes) e (arrived a p) in
      record {
        size = k.size;
        sound = k.sound;
        same = λ b h.
            (λ y. (k.same b h).0 y.1, λ y. ((x.1 b (whole b h) y).1 refl, (k.same b h).1 y));
      }

  pub kept-taken : (ls' : List (Slot (List ℕ))) (a : Equation (List ℕ)) → Proper m s a → arrive ls a ≡ into ls' → StandsFor m s (a ∷ accepted) ls'
  kept-taken ls' a p e =
      let x : Inserted (byte_space s) ls a.row a.bytes (into ls') =
      subst (Inserted (byte_space s) ls a.row a.bytes) e (arrived a p) in
      record {
        size = x.1 ∙ k.size;
        sound = x.0;
        same = λ b h.
            let z = x.3 b (whole b h) in
            (λ y. z.1 ((k.same b h).0 y.1, y.0), λ y. ((z.0 y).1, (k.same b h).1 (z.0 y).0));
      }

  -- ---- what that gives

  pub needs : 0 < s → LeastFurther m s accepted (missing ls)
  needs h = (
    (
      free ls,
      length-free ls,
      subst (λ (n : ℕ). AllByRecursion (λ (r : Row). length r ≡ n) (free ls)) k.size (rows_free ls),
      λ b b' w w' a a' u. pinned (byte_space s) ls b b' k.sound (whole b w) (whole b' w') ((k.same b w).0 a) ((k.same b' w').0 a') u,
    ),
    λ rows e only.
        no_fewer (byte_space s) (one s) (one_bytes s) (one_apart s h) ls rows k.sound
        (subst (λ (n : ℕ). AllByRecursion (λ (r : Row). length r ≡ n) rows) (sym k.size) e)
        (λ b b' w w' f f' u.
        only b b' (block b w) (block b' w') ((k.same b (block b w)).1 f) ((k.same b' (block b' w')).1 f') u),
  )

  nothing_free : (xs : List (Slot (List ℕ))) → missing xs ≡ 0 → free xs ≡ []
  nothing_free [] e = refl
  nothing_free (empty ∷ xs) e = absurd (suc-ne-zero (missing xs) e)
  nothing_free (filled t q ∷ xs) e = ap (map (λ (r : Row). false ∷ r)) (nothing_free xs e)

  pub the_block : missing ls ≡ 0 → OnlyBlock m s accepted (settle (zeros s) xors ls)
  the_block e =
      let b : List (List ℕ) = settle (zeros s) xors ls in
      let w = Whole-settle (byte_space s) ls k.sound in
      let f = Fits-settle (byte_space s) ls k.sound in (
        block b w,
        (k.same b (block b w)).1 f,
        λ b' w' a'.
            pinned (byte_space s) ls b' b k.sound (whole b' w') w ((k.same b' w').0 a') f
            (subst (λ (rs : List Row). AllByRecursion (λ (r : Row). coded s r b' ≡ coded s r b) rs) (sym (nothing_free ls e)) tt),
      )

  pub possible : SomeBlock m s accepted
  possible =
      let b : List (List ℕ) = settle (zeros s) xors ls in
      let w = Whole-settle (byte_space s) ls k.sound in
      (b, block b w, (k.same b (block b w)).1 (Fits-settle (byte_space s) ls k.sound))

  -- no block agrees with a row and bytes that leave bytes other than zeros
  pub refused : (a : Equation (List ℕ)) → Proper m s a → (q : List ℕ) → arrive ls a ≡ dependent q → (q ≡ zeros s → ⊥) → SomeBlock m s (a ∷ accepted) → ⊥
  refused a p q e n y =
      let x : Inserted (byte_space s) ls a.row a.bytes (dependent q) =
      subst (Inserted (byte_space s) ls a.row a.bytes) e (arrived a p) in
      n ((x.1 y.0 (whole y.0 y.1) ((k.same y.0 y.1).0 y.2.1)).0 y.2.0)

module _ {m s : ℕ} {accepted : List (Equation (List ℕ))} {ls : List (Slot (List ℕ))} (k : StandsFor m s accepted ls) where
  pub refused_only : (a : Equation (List ℕ)) → Proper m s a → (SomeBlock m s (a ∷ accepted) → ⊥) → (q : List ℕ) × (arrive ls a ≡ dependent q) × (q ≡ zeros s → ⊥)
  refused_only a p n = go (arrive ls a) refl
    where
      go : (o : Outcome (List ℕ)) → arrive ls a ≡ o → (q : List ℕ) × (arrive ls a ≡ dependent q) × (q ≡ zeros s → ⊥)
      go (dependent q) e = (q, e, λ z. n (possible (kept_known k a p (e ∙ ap dependent z))))
      go (into ls') e = absurd (n (possible (kept-taken k ls' a p e)))

pub kept : {m s : ℕ} {accepted : List (Equation (List ℕ))} {ls : List (Slot (List ℕ))} → Reached m s accepted ls → StandsFor m s accepted ls
kept {m = m} {s = s} start = kept_start m s
kept (known a r p e) = kept_known (kept r) a p e
kept (taken ls' a r p e) = kept-taken (kept r) ls' a p e
