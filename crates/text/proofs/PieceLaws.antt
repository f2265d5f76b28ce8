-- How the pieces of a list of bytes are met by a loop that goes from place to place.
use Rattle.std.specs.List.{slice_split, position_or_len}
use Rattle.std.specs.Option.{option_map, unwrap_or}
use denote.Ref.{Bor}
use Rattle.std.specs.Prelude.{ℕ, not, Option, Some, None, slice_get, ltb, zero, suc, ◌+◌, ◌-◌, ◌<◌, ◌≤◌, min, Bool, true, false, cond, List, [], ◌∷◌, ◌≡◌, refl, eqb, length, take, drop, get_or}
use Rattle.std.proofs.Common.{eq-or-lt_of_le, add-one, sub-one, ltb-false, sym, ◌∙◌, arith, ⊎_elim, eq-eqb, length-drop, drop-cons, drop-drop, take_all}
use Rattle.std.proofs.lemmas.Bool.{ne_eqb}
use Rattle.std.proofs.lemmas.List.{drop_min, drop_all}
use Rattle.text.specs.Pieces.{pieces, piece_end, onto_first, index_of, index_after}

-- There is a first piece.
pub some_piece : (separator : ℕ) (bytes : List ℕ) → 0 < length (pieces separator bytes)
unfolding pieces
some_piece separator [] = omega arith
some_piece separator (byte ∷ rest) = go (eqb byte separator) (pieces separator rest)
  where
    go : (t : Bool) (p : List (List ℕ)) → 0 < length (cond t ([] ∷ p) (onto_first byte p))
    go true p = omega arith
    go false [] = omega arith
    go false (piece ∷ p) = omega arith

-- There is at most one piece more than there are bytes.
pub few_pieces : (separator : ℕ) (bytes : List ℕ) → length (pieces separator bytes) ≤ length bytes + 1
unfolding pieces
few_pieces separator [] = omega arith
few_pieces separator (byte ∷ rest) = go (eqb byte separator) (pieces separator rest) (few_pieces separator rest)
  where
    go : (t : Bool) (p : List (List ℕ)) → length p ≤ length rest + 1 → length (cond t ([] ∷ p) (onto_first byte p)) ≤ suc (length rest) + 1
    go true p h = omega arith
    go false [] h = omega arith
    go false (piece ∷ p) h = omega arith

-- The search for a separator ends with the bytes.
pub index_within : (separator : ℕ) (bytes : List ℕ) → index_of separator bytes ≤ length bytes
unfolding index_of index_after
index_within separator [] = omega arith
index_within separator (byte ∷ rest) = go (eqb byte separator) (index_within separator rest)
  where
    go : (t : Bool) → index_of separator rest ≤ length rest → index_after t (index_of separator rest) ≤ suc (length rest)
    go true h = omega arith
    go false h = omega arith

-- A search from place i on: it ends where the separator stands, goes on past another byte, and ends with the bytes.
pub index_met : (separator : ℕ) (bytes : List ℕ) (i : ℕ) → i < length bytes → get_or bytes i 0 ≡ separator
    → index_of separator (drop i bytes) ≡ 0
unfolding index_of index_after
index_met separator bytes i h e = rw (drop-cons bytes i 0, eq-eqb (get_or bytes i 0) separator e)

pub index_passed : (separator : ℕ) (bytes : List ℕ) (i : ℕ) → i < length bytes → (get_or bytes i 0 ≡ separator → ⊥)
    → index_of separator (drop i bytes) ≡ suc (index_of separator (drop (i + 1) bytes))
unfolding index_of index_after
index_passed separator bytes i h e = rw (add-one, drop-cons bytes i 0, ne_eqb (get_or bytes i 0) separator e)

pub index_end : (separator : ℕ) (bytes : List ℕ) (i : ℕ) → length bytes ≤ i → index_of separator (drop i bytes) ≡ 0
unfolding index_of
index_end separator bytes i h = rw (drop_all i bytes h)

-- From a place among the bytes the separator that is found, or the end, is the end of the piece.
pub end_found : (separator : ℕ) (bytes : List ℕ) (at : ℕ) → at ≤ length bytes
    → piece_end separator bytes at ≡ at + index_of separator (drop at bytes)
end_found separator bytes at h =
    let long : length (drop at bytes) ≡ length bytes - at = length-drop at bytes in
    omega (arith, index_within separator (drop at bytes))

-- Bytes without a separator are one piece.
pub one_piece : (separator : ℕ) (bytes : List ℕ) → index_of separator bytes ≡ length bytes → pieces separator bytes ≡ bytes ∷ []
unfolding pieces index_of index_after
one_piece separator [] h = refl
one_piece separator (byte ∷ rest) h = go (eqb byte separator) (λ k. one_piece separator rest k) h
  where
    go : (t : Bool) → (index_of separator rest ≡ length rest → pieces separator rest ≡ rest ∷ [])
        → index_after t (index_of separator rest) ≡ suc (length rest)
        → cond t ([] ∷ pieces separator rest) (onto_first byte (pieces separator rest)) ≡ (byte ∷ rest) ∷ []
    go true r h = absurd (omega arith)
    go false r h = rw (r (omega arith))

-- Otherwise the first piece ends at the first separator, and the others are those of what follows it.
pub first_piece : (separator : ℕ) (bytes : List ℕ) → index_of separator bytes < length bytes
    → pieces separator bytes
    ≡ take (index_of separator bytes) bytes ∷ pieces separator (drop (suc (index_of separator bytes)) bytes)
unfolding pieces index_of index_after
first_piece separator [] h = absurd (omega arith)
first_piece separator (byte ∷ rest) h = go (eqb byte separator) (λ k. first_piece separator rest k) h
  where
    go : (t : Bool)
        → (index_of separator rest < length rest
        → pieces separator rest ≡ take (index_of separator rest) rest ∷ pieces separator (drop (suc (index_of separator rest)) rest))
        → index_after t (index_of separator rest) < suc (length rest)
        → cond t ([] ∷ pieces separator rest) (onto_first byte (pieces separator rest))
        ≡ take (index_after t (index_of separator rest)) (byte ∷ rest)
        ∷ pieces separator (drop (suc (index_after t (index_of separator rest))) (byte ∷ rest))
    go true r h = refl
    go false r h = rw (r (omega arith))

-- The same in the midst of the bytes, for the piece that starts at a place and ends at `stop`.
module _ (separator : ℕ) (bytes : List ℕ) (at stop : ℕ) (is : stop ≡ piece_end separator bytes at) where
  -- It ends with the bytes: it is the last one.
  pub last_piece : at ≤ length bytes → stop ≡ length bytes
      → pieces separator (drop at bytes) ≡ take (stop - at) (drop at bytes) ∷ []
  last_piece h k =
      let long : length (drop at bytes) ≡ length bytes - at = length-drop at bytes in
      let none : index_of separator (drop at bytes) ≡ length (drop at bytes) = omega (arith, end_found separator bytes at h) in
      rw (one_piece separator (drop at bytes) none, take_all (stop - at) (drop at bytes) (omega arith))

  -- It ends before that: the next one starts after its separator.
  pub next_piece : at ≤ length bytes → stop < length bytes
      → pieces separator (drop at bytes) ≡ take (stop - at) (drop at bytes) ∷ pieces separator (drop (stop + 1) bytes)
  next_piece h k =
      let long : length (drop at bytes) ≡ length bytes - at = length-drop at bytes in
      let found : stop - at ≡ index_of separator (drop at bytes) = omega (arith, end_found separator bytes at h) in
      let after : at + suc (index_of separator (drop at bytes)) ≡ stop + 1 = omega (arith, end_found separator bytes at h) in
      rw (found, first_piece separator (drop at bytes) (omega arith), drop-drop, after)

  -- In both cases it is the first of the pieces from its start on.
  pub head_piece : at ≤ length bytes → stop ≤ length bytes
      → get_or (pieces separator (drop at bytes)) 0 [] ≡ take (stop - at) (drop at bytes)
  head_piece h k = ⊎_elim (λ q. rw (last_piece h q)) (λ q. rw (next_piece h q)) (eq-or-lt_of_le k)

-- A piece other than the first is a piece of the others, one place earlier.
pub later_piece : {A : Type 0} (first : A) (others : List A) (n : ℕ) (none : A) → (n ≡ 0 → ⊥)
    → get_or (first ∷ others) n none ≡ get_or others (n - 1) none
later_piece first others zero none h = absurd (h refl)
later_piece first others (suc n) none h = rw sub-one

-- std's word for the parts that `split` gives.
pub pieces_split : (separator : ℕ) (bytes : List ℕ) → pieces separator bytes ≡ slice_split (λ x. eqb x separator) bytes
unfolding pieces
pieces_split separator [] = refl
pieces_split separator (byte ∷ rest) = rw (pieces_split separator rest) refl

-- and for the place that `position` gives, or the length
pub index_position : (separator : ℕ) (bytes : List ℕ) → index_of separator bytes ≡ position_or_len (λ x. eqb x separator) bytes
unfolding index_of index_after
index_position separator [] = refl
index_position separator (byte ∷ rest) = go (eqb byte separator) (index_position separator rest)
  where
    go : (t : Bool) → index_of separator rest ≡ position_or_len (λ x. eqb x separator) rest
        → index_after t (index_of separator rest) ≡ cond (not t) (1 + position_or_len (λ x. eqb x separator) rest) 0
    go true h = refl
    go false h = omega (arith, h)

-- What `position` gives: where a separator was found, so many bytes stand before it; where none was, all of them do.
module _ (separator : ℕ) (bytes : List ℕ) {r : Option ℕ}
    (is : r ≡ cond (ltb (position_or_len (λ x. eqb x separator) bytes) (length bytes)) (Some (position_or_len (λ x. eqb x separator) bytes)) None) where
  pub place_found : {i : ℕ} → r ≡ Some i → index_of separator bytes ≡ i
  place_found {i} e = rw (index_position separator bytes) (go (ltb (position_or_len (λ x. eqb x separator) bytes) (length bytes)) (sym is ∙ e))
    where
      go : (t : Bool) → cond t (Some (position_or_len (λ x. eqb x separator) bytes)) None ≡ Some i → position_or_len (λ x. eqb x separator) bytes ≡ i
      go true e = cc
      go false e = cc

  pub place_none : r ≡ None → index_of separator bytes ≡ length bytes
  place_none e = go (ltb (position_or_len (λ x. eqb x separator) bytes) (length bytes)) refl (sym is ∙ e)
    where
      go : (t : Bool) → ltb (position_or_len (λ x. eqb x separator) bytes) (length bytes) ≡ t
          → cond t (Some (position_or_len (λ x. eqb x separator) bytes)) None ≡ None → index_of separator bytes ≡ length bytes
      go true h e = cc
      go false h e =
          omega (
            arith,
            ltb-false (position_or_len (λ x. eqb x separator) bytes) (length bytes) h,
            index_position separator bytes,
            index_within separator bytes,
          )

-- The bytes from a place on, where a place past the end is held to the end.
pub rest_from : (bytes : List ℕ) (at start : ℕ) → start ≡ min at (length bytes)
    → take (length bytes - start) (drop start bytes) ≡ drop at bytes
rest_from bytes at start e =
    let long : length (drop start bytes) ≡ length bytes - start = length-drop start bytes in
    let same : drop start bytes ≡ drop at bytes = rw e (drop_min at bytes) in
    take_all (length bytes - start) (drop start bytes) (omega arith) ∙ same

-- The end of a piece, from the search of the bytes behind its start; from the end on there are none.
pub end_is : (separator : ℕ) (bytes : List ℕ) (at start i : ℕ) → start ≡ min at (length bytes)
    → index_of separator (take (length bytes - start) (drop start bytes)) ≡ i → start + i ≡ piece_end separator bytes at
end_is separator bytes at start i e h =
    let here : index_of separator (drop at bytes) ≡ i = rw (rest_from bytes at start e) at h in
    let rest : length (drop at bytes) ≡ length bytes - at = length-drop at bytes in
    omega (arith, index_within separator (drop at bytes))

-- The piece that `nth` gives, or none.
pub piece_or_none : (r : Option (Bor (List ℕ))) (none : Bor (List ℕ)) (all : List (List ℕ)) (k : ℕ)
    → option_map (λ (x : Bor (List ℕ)). x.now) r ≡ slice_get all k → none.now ≡ [] → (unwrap_or r none).now ≡ get_or all k []
piece_or_none r none [] k e h = go r e
  where
    go : (r : Option (Bor (List ℕ))) → option_map (λ (x : Bor (List ℕ)). x.now) r ≡ None → (unwrap_or r none).now ≡ []
    go None e = h
    go (Some x) e = cc
piece_or_none None none (piece ∷ rest) zero e h = cc
piece_or_none (Some x) none (piece ∷ rest) zero e h = cc
piece_or_none r none (piece ∷ rest) (suc k) e h = piece_or_none r none rest k e h
