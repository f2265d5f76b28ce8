-- Every row of a table holds: what a table of examples claims.
use Rattle.std.specs.Prelude.{List, [], ◌∷◌}

infixr 4 ◌also◌
pub data AllHold {A : Type 0} (Holds : A → Type 0) : List A → Type 0 where
  end : AllHold Holds []
  ◌also◌ : {row : A} {rest : List A} → Holds row → AllHold Holds rest → AllHold Holds (row ∷ rest)
