-- A text laid over a buffer from a place on, and the place after it.
use Rattle.std.specs.Prelude.{ℕ, ◌+◌, ◌-◌, min, List, ◌≡◌, length}
use Rattle.std.proofs.lemmas.List.Edits.{sets}
use Rattle.render.specs.declared.Writer.{Writer}

-- The buffer `after` is `before` with the text laid over it from place `at` on, as far as the buffer reaches.
-- The place `next` lies after what was laid; nothing is laid, and the place stays, from the buffer's end on.
pub record Put (before : List ℕ) (at : ℕ) (text : List ℕ) (after : List ℕ) (next : ℕ) : Type 0 where
  pub laid : after ≡ sets before at text
  pub moved : next ≡ at + min (length text) (length before - at)

-- The writer lays the text over its buffer at its place, and still has that buffer.
pub record Wrote (before : Writer) (text : List ℕ) (after : Writer) : Type 0 where
  pub put : Put before.out.now before.at text after.out.now after.at
  pub same_reference : after.out.ghost_name ≡ before.out.ghost_name
