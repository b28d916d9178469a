-- Worked cases: a file of names, the sentences under it, the longest sentence there is, and what is refused with 40 or just not.
use Prim.Native.Nat.{ℕ, ◌+◌, ◌/◌, ◌%◌}
use mathlib.Core.Path.{◌≡◌, refl}
use mathlib.Core.List.{List, [], ◌∷◌, ◌++◌, map}
use lib.ListN.{length, take, drop, set, replicate}
use Rattle.reading.specs.Read.{Read, got, refused, and_then}
use Rattle.inference.specs.Lists.{any, gather, rising}
use Rattle.inference.specs.Interface.{Permission, reading, writing, accessing, disclosing}
use Rattle.naming.specs.Names.{is_letter, letters_at, ended_at, name_at, names_at, same, distinct, list_at, Names, whole_at, read_names}
use Rattle.naming.specs.Sentence.{
  name_of,
  slashed,
  path_names,
  verb,
  of_kind,
  sentence,
}

-- All definitions that the cases compute with.
unfoldable pub computed : Unit {0}
unfolding and_then any gather rising is_letter letters_at ended_at name_at names_at same distinct list_at whole_at read_names name_of slashed path_names verb of_kind sentence
computed = tt

-- So many names: some letters, then two that tell the number, aa, ab and on.
abbrev numbered : List ℕ → ℕ → List (List ℕ)
numbered first n = map (λ i. first ++ ((97 + i / 26) ∷ (97 + i % 26) ∷ [])) (rising 0 n)

-- Gaa, Gab, .., Gcl and Kaa, Kab, .., Kap
abbrev pub groups : List (List ℕ)
groups = numbered (71 ∷ []) 64

abbrev pub kinds : List (List ℕ)
kinds = numbered (75 ∷ []) 16

abbrev ended : List (List ℕ) → List ℕ
ended words = gather (λ word. word ++ (10 ∷ [])) words

abbrev pub file : List (List ℕ) → List (List ℕ) → List ℕ
file groups kinds = ended groups ++ ended kinds

-- A path, a permission and a kind under these names.
abbrev says : List ℕ → Permission → ℕ → List ℕ
says path permission kind =
    sentence (record { groups = groups; kinds = kinds }) (record { path = path; permission = permission; kind = kind })

pub record Sentences : Type 0 where
  -- "Gaa/Gab may not disclose to Gaa: Kaa"
  pub disclosed : says (0 ∷ 1 ∷ []) (disclosing 0) 0
      ≡ 71 ∷ 97 ∷ 97 ∷ 47 ∷ 71 ∷ 97 ∷ 98 ∷ 32 ∷ 109 ∷ 97 ∷ 121 ∷ 32 ∷ 110 ∷ 111 ∷ 116 ∷ 32
      ∷ 100 ∷ 105 ∷ 115 ∷ 99 ∷ 108 ∷ 111 ∷ 115 ∷ 101 ∷ 32 ∷ 116 ∷ 111 ∷ 32 ∷ 71 ∷ 97 ∷ 97 ∷ 58 ∷ 32 ∷ 75 ∷ 97 ∷ 97 ∷ []
  -- "Gcl may not read: Kap"
  pub read : says (63 ∷ []) reading 15
      ≡ 71 ∷ 99 ∷ 108 ∷ 32 ∷ 109 ∷ 97 ∷ 121 ∷ 32 ∷ 110 ∷ 111 ∷ 116 ∷ 32 ∷ 114 ∷ 101 ∷ 97 ∷ 100 ∷ 58 ∷ 32 ∷ 75 ∷ 97 ∷ 112 ∷ []
  -- "Gac/Gab/Gaa may not write: Kab"
  pub written : says (2 ∷ 1 ∷ 0 ∷ []) writing 1
      ≡ 71 ∷ 97 ∷ 99 ∷ 47 ∷ 71 ∷ 97 ∷ 98 ∷ 47 ∷ 71 ∷ 97 ∷ 97 ∷ 32 ∷ 109 ∷ 97 ∷ 121 ∷ 32 ∷ 110 ∷ 111 ∷ 116 ∷ 32
      ∷ 119 ∷ 114 ∷ 105 ∷ 116 ∷ 101 ∷ 58 ∷ 32 ∷ 75 ∷ 97 ∷ 98 ∷ []
  -- " may not access: Kaa"
  pub accessed : says [] accessing 0
      ≡ 32 ∷ 109 ∷ 97 ∷ 121 ∷ 32 ∷ 110 ∷ 111 ∷ 116 ∷ 32 ∷ 97 ∷ 99 ∷ 99 ∷ 101 ∷ 115 ∷ 115 ∷ 58 ∷ 32 ∷ 75 ∷ 97 ∷ 97 ∷ []

pub sentences : Sentences
unfolding computed
sentences = record { disclosed = refl; read = refl; written = refl; accessed = refl }

-- The longest sentence: eight groups, one of them again, and a kind, each with a name of 20 letters.
abbrev long : ℕ → List (List ℕ)
long n = numbered (replicate 18 76) n

abbrev long_names : Names
long_names = record { groups = long 8 ++ drop 8 groups; kinds = long 1 ++ drop 1 kinds }

pub longest : length (sentence long_names (record { path = 0 ∷ 1 ∷ 2 ∷ 3 ∷ 4 ∷ 5 ∷ 6 ∷ 7 ∷ []; permission = disclosing 7; kind = 0 })) ≡ 230
unfolding computed
longest = refl

-- The two files give these names, and all of each is read.
pub names_given : read_names (file groups kinds) ≡ got (record { groups = groups; kinds = kinds }) 320
unfolding computed
names_given = refl

pub long_given : read_names (file long_names.groups long_names.kinds) ≡ got long_names 473
unfolding computed
long_given = refl

-- The question that a file fails, or 0.
abbrev fails : List ℕ → ℕ
fails s = asked (read_names s)
  where
    asked : Read Names → ℕ
    asked (got names end) = 0
    asked (refused question at) = question

pub record Files : Type 0 where
  pub one_letter : fails (file (set groups 5 (81 ∷ [])) kinds) ≡ 0
  pub twenty_letters : fails (file (set groups 5 (replicate 20 81)) kinds) ≡ 0
  pub twenty_one_letters : fails (file (set groups 5 (replicate 21 81)) kinds) ≡ 40
  pub empty_name : fails (file groups (set kinds 15 [])) ≡ 40
  -- A, Z, a and z, and the bytes beside them
  pub last_letters : fails (file (set groups 5 (65 ∷ 90 ∷ 97 ∷ 122 ∷ [])) kinds) ≡ 0
  pub below_upper : fails (file (set groups 5 (64 ∷ [])) kinds) ≡ 40
  pub above_upper : fails (file (set groups 5 (91 ∷ [])) kinds) ≡ 40
  pub below_lower : fails (file (set groups 5 (96 ∷ [])) kinds) ≡ 40
  pub above_lower : fails (file (set groups 5 (123 ∷ [])) kinds) ≡ 40
  pub digit : fails (file (set groups 5 (71 ∷ 49 ∷ [])) kinds) ≡ 40
  pub same_group : fails (file (set groups 63 (71 ∷ 97 ∷ 97 ∷ [])) kinds) ≡ 40
  pub same_kind : fails (file groups (set kinds 15 (75 ∷ 97 ∷ 97 ∷ []))) ≡ 40
  pub shared_name : fails (file groups (set kinds 15 (71 ∷ 97 ∷ 97 ∷ []))) ≡ 0
  pub by_case : fails (file (set groups 63 (71 ∷ 97 ∷ 65 ∷ [])) kinds) ≡ 0
  pub not_ended : fails (take 319 (file groups kinds)) ≡ 40
  pub byte_after : fails (file groups kinds ++ (10 ∷ [])) ≡ 40
  pub names_79 : fails (file groups (take 15 kinds)) ≡ 40
  pub names_81 : fails (file groups (numbered (75 ∷ []) 17)) ≡ 40
  pub no_names : fails [] ≡ 40

pub files : Files
unfolding computed
files = record {
  one_letter = refl;
  twenty_letters = refl;
  twenty_one_letters = refl;
  empty_name = refl;
  last_letters = refl;
  below_upper = refl;
  above_upper = refl;
  below_lower = refl;
  above_lower = refl;
  digit = refl;
  same_group = refl;
  same_kind = refl;
  shared_name = refl;
  by_case = refl;
  not_ended = refl;
  byte_after = refl;
  names_79 = refl;
  names_81 = refl;
  no_names = refl;
}
