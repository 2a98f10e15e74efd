-- Either of two stores keeps to what every store keeps to. Assumes nothing.
use Rattle.cells.specs.Meaning.{Meaning, Bounded}
use Rattle.either.specs.Either.{either}
use Rattle.either.specs.declared.Either.{Either}
use Rattle.either.specs.declared.Either.TheVariants.{Left, Right}

pub either_bounded : {L R : Type 0} (m : L → Meaning) (n : R → Meaning) → ((x : L) → Bounded (m x)) → ((y : R) → Bounded (n y)) → (s : Either L R) → Bounded (either m n s)
either_bounded m n a b (Left x) = a x
either_bounded m n a b (Right y) = b y
