-- Worked cases of `explain`: example W under charters that do not cover it, each verb, which permission is the first, and what is
-- refused with 19 or 40, each on the definition with a file of the names Gaa, Gab, .. and Kaa, Kab, ..
use Prim.Native.Nat.{ℕ}
use mathlib.Core.Path.{◌≡◌, refl}
use mathlib.Core.List.{List, [], ◌∷◌, ◌++◌, map}
use lib.ListN.{length, drop, replicate}
use Rattle.fit.specs.Uncovered.{first, permission_of, or_none, first_missing, or_further, first_uncovered}
use Rattle.naming.proofs.Cases.{groups, kinds, file}
use Rattle.naming.proofs.Cases as naming
use Rattle.service.specs.Questions.{passed, failed}
use Rattle.service.specs.Check.{Outcome}
use Rattle.service.proofs.Computed.{computed, Wanted, writes, refuses}
use Rattle.service.proofs.Table.{w, w_charter}
use Rattle.explaining.specs.Explain.{uncovered_in, said, explanation, explained}

-- All definitions that the cases compute with.
unfoldable worked : Unit {0}
unfolding computed naming.computed first permission_of or_none first_missing or_further first_uncovered uncovered_in said explanation explained
worked = tt

-- Sheet, charter, names, line, and what is wanted.
pub data Row : Type 0 where
  row : List ℕ → List ℕ → List ℕ → List ℕ → Wanted → Row

abbrev got : Row → Outcome
got (row sheet charter names line want) = explained sheet charter names line

abbrev wanted : Row → Outcome
wanted (row sheet charter names line (writes bytes)) =
    record { answer = passed (length bytes); lent = bytes ++ drop (length bytes) line }
wanted (row sheet charter names line (refuses number)) = record { answer = failed number; lent = line }

abbrev names : List ℕ
names = file groups kinds

-- so many bytes that a call is lent
abbrev line : ℕ → List ℕ
line n = replicate n 0xAA

-- "Gaa/Gab may not disclose to Gaa: Kaa"
abbrev disclosed : List ℕ
disclosed =
    71 ∷ 97 ∷ 97 ∷ 47 ∷ 71 ∷ 97 ∷ 98 ∷ 32 ∷ 109 ∷ 97 ∷ 121 ∷ 32 ∷ 110 ∷ 111 ∷ 116 ∷ 32 ∷ 100 ∷ 105 ∷ 115 ∷ 99 ∷ 108 ∷ 111 ∷ 115
    ∷ 101 ∷ 32 ∷ 116 ∷ 111 ∷ 32 ∷ 71 ∷ 97 ∷ 97 ∷ 58 ∷ 32 ∷ 75 ∷ 97 ∷ 97 ∷ []

-- "Gab/Gaa may not disclose to Gaa: Kaa"
abbrev reversed : List ℕ
reversed =
    71 ∷ 97 ∷ 98 ∷ 47 ∷ 71 ∷ 97 ∷ 97 ∷ 32 ∷ 109 ∷ 97 ∷ 121 ∷ 32 ∷ 110 ∷ 111 ∷ 116 ∷ 32 ∷ 100 ∷ 105 ∷ 115 ∷ 99 ∷ 108 ∷ 111 ∷ 115 ∷ 101 ∷ 32 ∷ 116 ∷ 111 ∷ 32 ∷ 71 ∷ 97 ∷ 97 ∷ 58 ∷ 32 ∷ 75 ∷ 97 ∷ 97 ∷ []

-- "Gaa/Gac may not read: Kaa"
abbrev unread : List ℕ
unread =
    71 ∷ 97 ∷ 97 ∷ 47 ∷ 71 ∷ 97 ∷ 99 ∷ 32 ∷ 109 ∷ 97 ∷ 121 ∷ 32 ∷ 110 ∷ 111 ∷ 116 ∷ 32 ∷ 114 ∷ 101 ∷ 97 ∷ 100 ∷ 58 ∷ 32 ∷ 75 ∷ 97
    ∷ 97 ∷ []

-- W's charter with node 1 as `01 00 00`, and with a map of node 2
abbrev bare : List ℕ
bare = 0x01 ∷ 0x00 ∷ 0x00 ∷ 0x08 ∷ 0x02 ∷ 0x01 ∷ 0x00 ∷ 0x00 ∷ 0x02 ∷ 0x05 ∷ 0x00 ∷ []

abbrev mapped : ℕ → List ℕ
mapped m = 0x01 ∷ 0x00 ∷ 0x00 ∷ 0x08 ∷ 0x02 ∷ 0x01 ∷ 0x10 ∷ 0x01 ∷ 0x00 ∷ 0x01 ∷ 0x00 ∷ 0x00 ∷ 0x02 ∷ m ∷ 0x00 ∷ []

-- a sheet with a post of path 0, 1 that discloses to 1, then to 0
abbrev twice : List ℕ
twice =
    0x03 ∷ 0x02 ∷ 0x01 ∷ 0x00 ∷ 0x00 ∷ 0x02 ∷ 0x00 ∷ 0x00 ∷ 0x00 ∷ 0x01 ∷ 0x00 ∷ 0x00
    ∷ 0x02 ∷ 0x00 ∷ 0x04 ∷ 0x01 ∷ 0x00 ∷ 0x06 ∷ 0x00 ∷ 0x02 ∷ 0x06 ∷ 0x01 ∷ 0x02 ∷ 0x00 ∷ []

pub cases : List Row
cases =
    -- W with its charter
    row w w_charter names (line 40) (writes []) ∷
    -- the same with no names
    row w w_charter [] (line 40) (writes []) ∷
    -- W's node 1 as `01 00 00`
    row w bare names (line 40) (writes disclosed) ∷
    -- the same with no names
    row w bare [] (line 40) (refuses 40) ∷
    -- a line just long enough
    row w bare names (line 36) (writes disclosed) ∷
    -- a line one byte too short
    row w bare names (line 35) (refuses 19) ∷
    -- 40 goes before 19
    row w bare [] [] (refuses 40) ∷
    -- charter `00`
    row w (0x00 ∷ []) names (line 40) (refuses 16) ∷
    -- the same with no names
    row w (0x00 ∷ []) [] (line 40) (refuses 16) ∷
    -- W with 07 before the send: the count is too small
    row (0x02 ∷ 0x02 ∷ 0x00 ∷ 0x00 ∷ 0x00 ∷ 0x01 ∷ 0x00 ∷ 0x00 ∷ 0x02 ∷ 0x00 ∷ 0x01 ∷ 0x04 ∷ 0x01 ∷ 0x00 ∷ 0x07 ∷ 0x06 ∷ 0x00 ∷ 0x01
    ∷ 0x00 ∷ 0x04 ∷ 0x02 ∷ 0x00 ∷ 0x05 ∷ 0x00 ∷ 0x01 ∷ 0x00 ∷ 0x00 ∷ 0x05 ∷ 0x02 ∷ 0x00 ∷ 0x00 ∷ 0x00 ∷ [])
    w_charter names (line 40) (writes disclosed) ∷
    -- W's node 2 with map 04
    row w (mapped 0x04) names (line 40) (writes unread) ∷
    -- W's node 2 with map 01: "Gaa/Gac may not access: Kaa"
    row w (mapped 0x01) names (line 40)
    (writes (71 ∷ 97 ∷ 97 ∷ 47 ∷ 71 ∷ 97 ∷ 99 ∷ 32 ∷ 109 ∷ 97 ∷ 121 ∷ 32 ∷ 110 ∷ 111 ∷ 116 ∷ 32 ∷ 97 ∷ 99 ∷ 99 ∷ 101 ∷ 115 ∷ 115 ∷ 58
    ∷ 32 ∷ 75 ∷ 97 ∷ 97 ∷ [])) ∷
    -- W's node 2 with map 00: access is needed first, but read is told
    row w (mapped 0x00) names (line 40) (writes unread) ∷
    -- write missing, all else granted: "Gaa may not write: Kaa"
    row (0x02 ∷ 0x01 ∷ 0x00 ∷ 0x00 ∷ 0x00 ∷ 0x00 ∷ 0x04 ∷ 0x00 ∷ 0x00 ∷ 0x06 ∷ 0x00 ∷ 0x01 ∷ 0x00 ∷ [])
    (0x01 ∷ 0x00 ∷ 0x00 ∷ 0x15 ∷ 0x01 ∷ 0x00 ∷ 0xFF ∷ 0xFF ∷ 0x00 ∷ []) names (line 40)
    (writes (71 ∷ 97 ∷ 97 ∷ 32 ∷ 109 ∷ 97 ∷ 121 ∷ 32 ∷ 110 ∷ 111 ∷ 116 ∷ 32 ∷ 119 ∷ 114 ∷ 105 ∷ 116 ∷ 101 ∷ 58 ∷ 32 ∷ 75 ∷ 97 ∷ 97
    ∷ [])) ∷
    -- neither of two groups granted: the lower one is told
    row twice (0x01 ∷ 0x00 ∷ 0x00 ∷ 0x00 ∷ 0x01 ∷ 0x01 ∷ 0x00 ∷ 0x00 ∷ []) names (line 40) (writes disclosed) ∷
    -- group 0 granted: "Gaa/Gab may not disclose to Gab: Kaa"
    row twice (0x01 ∷ 0x00 ∷ 0x00 ∷ 0x10 ∷ 0x01 ∷ 0x00 ∷ 0x01 ∷ 0x00 ∷ 0x01 ∷ 0x01 ∷ 0x00 ∷ 0x00 ∷ []) names (line 40)
    (writes (71 ∷ 97 ∷ 97 ∷ 47 ∷ 71 ∷ 97 ∷ 98 ∷ 32 ∷ 109 ∷ 97 ∷ 121 ∷ 32 ∷ 110 ∷ 111 ∷ 116 ∷ 32 ∷ 100 ∷ 105 ∷ 115 ∷ 99 ∷ 108 ∷ 111
    ∷ 115 ∷ 101 ∷ 32 ∷ 116 ∷ 111 ∷ 32 ∷ 71 ∷ 97 ∷ 98 ∷ 58 ∷ 32 ∷ 75 ∷ 97 ∷ 97 ∷ [])) ∷
    -- two entries are not covered: the first speaks
    row (0x03 ∷ 0x02 ∷ 0x00 ∷ 0x00 ∷ 0x00 ∷ 0x01 ∷ 0x00 ∷ 0x00 ∷ 0x00 ∷ 0x00 ∷ 0x02 ∷ 0x00 ∷ 0x01 ∷ 0x04 ∷ 0x01 ∷ 0x00 ∷ 0x06 ∷ 0x00
    ∷ 0x01 ∷ 0x00 ∷ 0x04 ∷ 0x02 ∷ 0x00 ∷ 0x05 ∷ 0x01 ∷ 0x00 ∷ 0x00 ∷ 0x00 ∷ [])
    (0x01 ∷ 0x00 ∷ 0x00 ∷ 0x00 ∷ 0x02 ∷ 0x01 ∷ 0x00 ∷ 0x00 ∷ 0x02 ∷ 0x00 ∷ 0x00 ∷ []) names (line 40) (writes disclosed) ∷
    -- two kinds of one post, the higher one used first: "Gaa may not read: Kab"
    row (0x02 ∷ 0x01 ∷ 0x00 ∷ 0x01 ∷ 0x01 ∷ 0x00 ∷ 0x02 ∷ 0x04 ∷ 0x00 ∷ 0x00 ∷ 0x05 ∷ 0x01 ∷ 0x00 ∷ 0x02 ∷ 0x05 ∷ 0x00 ∷ 0x00 ∷ 0x01
    ∷ 0x00 ∷ [])
    (0x02 ∷ 0x02 ∷ 0x00 ∷ 0x00 ∷ 0x00 ∷ 0x01 ∷ 0x00 ∷ 0x00 ∷ 0x00 ∷ []) names (line 40)
    (writes (71 ∷ 97 ∷ 97 ∷ 32 ∷ 109 ∷ 97 ∷ 121 ∷ 32 ∷ 110 ∷ 111 ∷ 116 ∷ 32 ∷ 114 ∷ 101 ∷ 97 ∷ 100 ∷ 58 ∷ 32 ∷ 75 ∷ 97 ∷ 98 ∷ [])) ∷
    -- the paths 0.1 and 1.0 share a count of 1: the first entry speaks, though its own count would fit
    row (0x02 ∷ 0x02 ∷ 0x00 ∷ 0x00 ∷ 0x00 ∷ 0x01 ∷ 0x00 ∷ 0x00 ∷ 0x01 ∷ 0x02 ∷ 0x00 ∷ 0x04 ∷ 0x01 ∷ 0x00 ∷ 0x06 ∷ 0x00 ∷ 0x01 ∷ 0x00 ∷ 0x02 ∷ 0x01 ∷ 0x04 ∷ 0x00 ∷ 0x00 ∷ 0x06 ∷ 0x00 ∷ 0x01 ∷ 0x00 ∷ [])
    (0x01 ∷ 0x00 ∷ 0x00 ∷ 0x08 ∷ 0x01 ∷ 0x01 ∷ 0x10 ∷ 0x01 ∷ 0x00 ∷ 0x01 ∷ 0x00 ∷ 0x00 ∷ []) names (line 40) (writes disclosed) ∷
    -- the second of them is unlimited: the first speaks all the same
    row (0x02 ∷ 0x02 ∷ 0x00 ∷ 0x00 ∷ 0x00 ∷ 0x01 ∷ 0x00 ∷ 0x00 ∷ 0x01 ∷ 0x02 ∷ 0x00 ∷ 0x04 ∷ 0x01 ∷ 0x00 ∷ 0x06 ∷ 0x00 ∷ 0x01 ∷ 0x00 ∷ 0x02 ∷ 0x01 ∷ 0x04 ∷ 0x00 ∷ 0x00 ∷ 0x07 ∷ 0x06 ∷ 0x00 ∷ 0x01 ∷ 0x00 ∷ [])
    (0x01 ∷ 0x00 ∷ 0x00 ∷ 0x08 ∷ 0x01 ∷ 0x01 ∷ 0x10 ∷ 0x01 ∷ 0x00 ∷ 0xFF ∷ 0x0F ∷ 0x00 ∷ []) names (line 40) (writes disclosed) ∷
    -- the first component shares the count and needs none of it: the first that has the disclosure speaks
    row (0x02 ∷ 0x02 ∷ 0x00 ∷ 0x00 ∷ 0x00 ∷ 0x01 ∷ 0x00 ∷ 0x00 ∷ 0x01 ∷ 0x02 ∷ 0x00 ∷ 0x04 ∷ 0x01 ∷ 0x00 ∷ 0x05 ∷ 0x01 ∷ 0x00 ∷ 0x00 ∷ 0x00 ∷ 0x02 ∷ 0x01 ∷ 0x01 ∷ 0x04 ∷ 0x00 ∷ 0x00 ∷ 0x06 ∷ 0x00 ∷ 0x01 ∷ 0x00 ∷ 0x04 ∷ 0x00 ∷ 0x00 ∷ 0x06 ∷ 0x00 ∷ 0x01 ∷ 0x00 ∷ [])
    (0x01 ∷ 0x00 ∷ 0x00 ∷ 0x01 ∷ 0x01 ∷ 0x01 ∷ 0x10 ∷ 0x01 ∷ 0x00 ∷ 0x01 ∷ 0x00 ∷ 0x00 ∷ []) names (line 40) (writes reversed) ∷
    -- granted for purpose 0, asked for purpose 1: the sentence does not name the purpose
    row (0x02 ∷ 0x02 ∷ 0x00 ∷ 0x00 ∷ 0x00 ∷ 0x01 ∷ 0x00 ∷ 0x00 ∷ 0x02 ∷ 0x00 ∷ 0x04 ∷ 0x01 ∷ 0x01 ∷ 0x06 ∷ 0x00 ∷ 0x01 ∷ 0x00 ∷ [])
    (0x01 ∷ 0x00 ∷ 0x00 ∷ 0x08 ∷ 0x01 ∷ 0x01 ∷ 0x30 ∷ 0x01 ∷ 0x00 ∷ 0x01 ∷ 0x00 ∷ 0x01 ∷ 0x00 ∷ 0x00 ∷ []) names (line 40) (writes disclosed) ∷
    []

pub cases_hold : map got cases ≡ map wanted cases
unfolding worked cases
cases_hold = refl
