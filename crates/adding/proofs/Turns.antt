-- Adding one list into another: a turn of the loop, and the places that two lists share. Assumes nothing.
use Rattle.std.proofs.Common.{◌≡◌, ℕ, zero, suc, ◌+◌, ◌<◌, ◌≤◌, min, List, [], ◌∷◌, ◌++◌, length, get_or, take, drop, set, refl, ap, arith, length-drop, length-take, take-append-drop}
use Rattle.std.proofs.lemmas.List.{take_all, drop_all, append-nil}
use Rattle.adding.specs.Sums.{Laws, sum, added}

module _ {E : Type 0} (add : E → E → E) where
  -- the first i places of a list with those of another added, and the rest of it
  abbrev pub begun : ℕ → List E → List E → List E
  begun i xs ys = sum add (take i xs) (take i ys) ++ drop i xs

  pub begun_more : (xs ys : List E) (i : ℕ) (x y : E) → i < length xs → i < length ys → x ≡ get_or (begun i xs ys) i x → y ≡ get_or ys i y
      → set (begun i xs ys) i (add x y) ≡ begun (suc i) xs ys
  begun_more [] ys i x y hx hy rx ry = absurd (omega arith)
  begun_more (a ∷ xs) [] i x y hx hy rx ry = absurd (omega arith)
  begun_more (a ∷ xs) (b ∷ ys) zero x y hx hy rx ry = cc
  begun_more (a ∷ xs) (b ∷ ys) (suc i) x y hx hy rx ry =
      ap (λ (zs : List E). add a b ∷ zs) (begun_more xs ys i x y (omega arith) (omega arith) rx ry)

  pub begun_all : (xs ys : List E) (i : ℕ) → length xs ≤ i → length xs ≡ length ys → begun i xs ys ≡ sum add xs ys
  begun_all xs ys i h e = rw (take_all i xs h, take_all i ys (omega arith), drop_all i xs h) (append-nil (sum add xs ys))

  -- only the places that both have matter
  added_front : (xs rest ys : List E) → length xs ≡ min (length xs + length rest) (length ys)
      → added add (xs ++ rest) ys ≡ sum add xs (take (length xs) ys) ++ rest
  added_front [] [] ys h = refl
  added_front [] (x ∷ rest) [] h = refl
  added_front [] (x ∷ rest) (y ∷ ys) h = absurd (omega arith)
  added_front (x ∷ xs) rest [] h = absurd (omega arith)
  added_front (x ∷ xs) rest (y ∷ ys) h = ap (λ (zs : List E). add x y ∷ zs) (added_front xs rest ys (omega arith))

  pub front_added : (n : ℕ) (xs ys : List E) → n ≡ min (length xs) (length ys) → sum add (take n xs) (take n ys) ++ drop n xs ≡ added add xs ys
  front_added n xs ys h =
      let long : length (take n xs) ≡ n = simp length-take (omega arith) in
      let whole : length (take n xs) ≡ min (length (take n xs) + length (drop n xs)) (length ys) = omega (arith, length-drop n xs) in
      let front = added_front (take n xs) (drop n xs) ys whole in
      let all = take-append-drop n xs in
      cc

  pub front_back : (n : ℕ) (front xs ys : List E) → length front ≡ length (take n xs) → n ≡ min (length xs) (length ys) → sum add front (take n ys) ≡ take n xs
      → added add (front ++ drop n xs) ys ≡ xs
  front_back n front xs ys long h e =
      let whole : length front ≡ min (length front + length (drop n xs)) (length ys) = omega (arith, length-take n xs, length-drop n xs) in
      let taken : length front ≡ n = omega (arith, length-take n xs) in
      let is = added_front front (drop n xs) ys whole in
      let all = take-append-drop n xs in
      cc

-- by the laws, adding the same list again takes the first adding back
pub sum_back : {E : Type 0} {none : E} {add : E → E → E} → Laws none add → (xs ys : List E) → length xs ≡ length ys → sum add (sum add xs ys) ys ≡ xs
sum_back laws [] ys e = refl
sum_back laws (x ∷ xs) [] e = absurd (omega arith)
sum_back {E = E} {add = add} laws (x ∷ xs) (y ∷ ys) e = cc (laws.assoc x y y, laws.cancels y, laws.neutral x, sum_back laws xs ys (omega arith))
