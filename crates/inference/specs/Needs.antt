-- What an act of a sheet needs, by "What an act needs" (document 01; `need` of the crate needs), and what a list of acts needs
-- together.
use Rattle.std.specs.Prelude.{ℕ, List, [], ◌∷◌, Bool, true, false, cond, ◌&&◌, eqb}
use Rattle.std.proofs.Math.Option.{Option, some, none}
use Rattle.needs.specs.Needs.{need}
use Rattle.needs.specs.declared.Need.{Need}
use Rattle.needs.specs.declared.Need.TheVariants.{Nothing, Read, Write, Access, Disclose}
use Rattle.inference.specs.Counts.{Count, fin, ◌⊕◌, repeatedly}
use Rattle.inference.specs.Acts.{Act}

-- An act whose channel is not in scope, or is no channel, needs nothing; such an act fails 7 or 8, and is an error by itself.
unfoldable pub need_on : Bool → Option ℕ → Need
need_on sends none = Nothing
need_on sends (some t) = need sends t

unfoldable pub need_of : Act → Need
need_of a = need_on a.sends a.channel

unfoldable pub is_read : ℕ → Need → Bool
is_read k Nothing = false
is_read k (Read t) = eqb t k
is_read k (Write t) = false
is_read k (Access t) = false
is_read k (Disclose t g) = false

unfoldable pub is_write : ℕ → Need → Bool
is_write k Nothing = false
is_write k (Read t) = false
is_write k (Write t) = eqb t k
is_write k (Access t) = false
is_write k (Disclose t g) = false

unfoldable pub is_access : ℕ → Need → Bool
is_access k Nothing = false
is_access k (Read t) = false
is_access k (Write t) = false
is_access k (Access t) = eqb t k
is_access k (Disclose t g) = false

-- How often a need discloses data of kind k into group h: once or not at all.
unfoldable pub disclosures : ℕ → ℕ → Need → ℕ
disclosures k h Nothing = 0
disclosures k h (Read t) = 0
disclosures k h (Write t) = 0
disclosures k h (Access t) = 0
disclosures k h (Disclose t g) = cond (eqb t k && eqb g h) 1 0

-- What acts weigh together: "counts added, unlimited with any count giving unlimited. Under repeat each count becomes
-- unlimited."
unfoldable pub weigh : Bool → ℕ → Count
weigh false n = fin n
weigh true n = repeatedly n

unfoldable pub total : (Act → ℕ) → List Act → Count
total w [] = fin 0
total w (a ∷ rest) = weigh a.repeated (w a) ⊕ total w rest

-- The count that acts need to disclose data of kind k into group h.
unfoldable pub disclosed : ℕ → ℕ → List Act → Count
disclosed k h acts = total (λ a. disclosures k h (need_of a)) acts
