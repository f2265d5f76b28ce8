-- The pieces into which a separator cuts a list of bytes: the lines of a plan, the fields of a line.
-- R142: lines end in a line feed, and fields have one space between.
use Rattle.std.specs.Prelude.{ℕ, suc, ◌+◌, Bool, true, false, min, cond, List, [], ◌∷◌, eqb, length, drop}

-- The byte between two fields.
abbrev pub space : ℕ
space = 32

-- The byte at the end of a line.
abbrev pub line_feed : ℕ
line_feed = 10

-- What comes before a byte is one place more, unless the byte itself is the one that is looked for.
unfoldable pub index_after : Bool → ℕ → ℕ
index_after true rest = 0
index_after false rest = suc rest

-- How many bytes stand before the first separator: all where there is none.
unfoldable pub index_of : ℕ → List ℕ → ℕ
index_of separator [] = 0
index_of separator (byte ∷ rest) = index_after (eqb byte separator) (index_of separator rest)

-- A byte put in front of the first of some pieces.
abbrev pub onto_first : ℕ → List (List ℕ) → List (List ℕ)
onto_first byte [] = (byte ∷ []) ∷ []
onto_first byte (piece ∷ rest) = (byte ∷ piece) ∷ rest

-- What stands before the first separator, between each two and after the last: one piece more than there are separators.
-- Pieces may be empty, and none of them has a separator in it.
unfoldable pub pieces : ℕ → List ℕ → List (List ℕ)
pieces separator [] = [] ∷ []
pieces separator (byte ∷ rest) =
    cond (eqb byte separator) ([] ∷ pieces separator rest) (onto_first byte (pieces separator rest))

-- Where the piece that starts at a place ends: at the next separator from there on, or at the end of the bytes.
abbrev pub piece_end : ℕ → List ℕ → ℕ → ℕ
piece_end separator bytes at = min (at + index_of separator (drop at bytes)) (length bytes)
