-- What a text laid over a buffer from its first place on leaves, where it fits.
use Rattle.std.specs.Prelude.{ℕ, ◌≤◌, List, ◌++◌, ◌≡◌, length, take, drop}
use Rattle.std.proofs.Common.{zero-add, arith, sym, ap, ◌∙◌, length-take-le}
use Rattle.std.proofs.lemmas.List.Edits.{sets-eq}
use Rattle.render.specs.Put.{Put}
use Rattle.render.specs.PutLaws.{put_long}

module _ {d xs d' : List ℕ} {r : ℕ} (p : Put d 0 xs d' r) (room : r ≤ length d') (whole : take r d' ≡ xs) where
  -- The place after it is its length,
  pub whole_length : length xs ≡ r
  whole_length = ap length (sym whole) ∙ length-take-le r d' room

  -- and all other places keep what they held.
  pub whole_laid : d' ≡ xs ++ drop (length xs) d
  whole_laid = p.laid ∙ simp zero-add at (sets-eq xs d 0 (omega (arith, room, whole_length, put_long p)))
