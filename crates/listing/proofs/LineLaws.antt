-- The line that is composed of an entry's bytes is a function of the entry and its covering, and nothing else: wherever the entry stands with
-- its slack, the line read there is `line_of` of the two, and the place after it is where the next entry stands. So the lines read from the
-- first byte on are those of the entries in turn.
use Prim.Native.Nat.{ℕ, ◌+◌, ◌*◌, ◌/◌, ◌%◌, ◌<◌}
use mathlib.Core.Bool.{Bool, true, false, not}
use mathlib.Core.List.{List, [], ◌∷◌, ◌++◌, map, append_assoc, append-nil}
use mathlib.Core.Path.{◌≡◌, refl, sym, ap, ◌∙◌}
use native.Mathlib.Nat.{div-add-mod', mod-lt, mod-eq_of_lt}
use native.Mathlib.Omega.{arith}
use lib.Dec.{lit<}
use lib.ListN.{length, get_or, drop, length-append}
use lib.Seq.{get_or-drop, drop-drop, drop-append_seam}
use Rattle.inference.specs.Lists.{only, gather}
use Rattle.inference.specs.Counts.{Count, count_number}
use Rattle.inference.specs.Interface.{
  Entry,
  is_empty,
  interface,
  Required,
  required_of,
  bit,
  map_of,
}
use Rattle.policy.specs.Syntax.{Tree, has_bit}
use Rattle.fit.specs.Satisfies.{Verdict, flag, counts, covering}
use Rattle.slack.specs.Storable.{Storable, storable_none, storable_flag, storable_counts}
use Rattle.slack.specs.Slack.{count_bytes, verdict_bytes, on_group, sums_bytes, slack_entry, slack_bytes}
use Rattle.slack.proofs.SlackBytes.{sum_of, group_sums}
use Rattle.slack.proofs.SlackCounts.{counts_stored}
use Rattle.interface.proofs.Alls.{All, done, also}
use Rattle.service.specs.Questions.{passed, Accepted, judged}
use Rattle.listing.specs.Text.{
  text_of,
  items_text,
  line_text,
  verdict_text,
  line_of,
  number_at,
  item_at,
  items_at,
  bytes_at,
  path_len,
  purpose_in,
  map_in,
  list_place,
  items_in,
  end_of,
  item_count,
  line_at,
  next_at,
  lines_in,
  place_after,
}

-- Bytes that stand at a place.
module _ (s : List ℕ) (at : ℕ) where
  byte_there : (k : ℕ) {t : List ℕ} → drop at s ≡ t → get_or s (at + k) 0 ≡ get_or t k 0
  byte_there k e = sym (get_or-drop at s k 0) ∙ ap (λ (l : List ℕ). get_or l k 0) e

  first_there : {t : List ℕ} → drop at s ≡ t → get_or s at 0 ≡ get_or t 0 0
  first_there e = let z : at + 0 ≡ at = omega arith in rw z at (byte_there 0 e)

  after_there : (xs : List ℕ) {t : List ℕ} → drop at s ≡ xs ++ t → drop (at + length xs) s ≡ t
  after_there xs {t} e = sym (drop-drop (length xs) at s) ∙ ap (λ (l : List ℕ). drop (length xs) l) e ∙ drop-append_seam xs t

bytes_there : (xs s t : List ℕ) (at : ℕ) → drop at s ≡ xs ++ t → bytes_at (length xs) s at ≡ xs
unfolding bytes_at
bytes_there [] s t at e = refl
bytes_there (x ∷ xs) s t at e = rw (first_there s at e, bytes_there xs s t (at + 1) (after_there s at (x ∷ []) e))

-- A count in two bytes.
low_high : (n : ℕ) → n < 65536 → n % 256 + 256 * (n / 256 % 256) ≡ n
low_high n h =
    let l : n % 256 < 256 = mod-lt n (lit< tt) in
    let m : n / 256 < 256 = omega (arith, div-add-mod' n 256) in
    rw (mod-eq_of_lt m) (omega (arith, div-add-mod' n 256))

number_there : (s t : List ℕ) (at : ℕ) (n : Count) → count_number n < 65536 → drop at s ≡ count_bytes n ++ t → number_at s at ≡ count_number n
unfolding number_at count_bytes
number_there s t at n h e = rw (first_there s at e, byte_there s at 1 e) (low_high (count_number n) h)

-- The items of verdicts: a flag has none.
item_there : (s t : List ℕ) (at h : ℕ) (n g : Count) → count_number n < 65536 → count_number g < 65536 → drop at s ≡ verdict_bytes (counts h n g) ++ t
    → text_of (item_at s at) ≡ verdict_text (counts h n g)
unfolding text_of item_at verdict_text verdict_bytes count_bytes
item_there s t at h n g k l e =
    rw (
      first_there s at e,
      number_there s (count_bytes g ++ t) (at + 1) n k (after_there s at (h ∷ []) e),
      number_there s t (at + 3) g l (after_there s at (h ∷ count_bytes n) e),
    )

items_there : {vs : List Verdict} (s t : List ℕ) (at : ℕ) → Storable vs → drop at s ≡ gather verdict_bytes vs ++ t
    → items_text (items_at (length (only on_group vs)) s at) ≡ gather verdict_text vs
unfolding items_text items_at only on_group gather verdict_text verdict_bytes count_bytes
items_there s t at storable_none e = refl
items_there s t at (storable_flag k) e = items_there s t at k e
items_there s t at (storable_counts {h} {needed} {granted} {rest} k l m) e =
    rw (
      item_there s (gather verdict_bytes rest ++ t) at h needed granted k l e,
      items_there s t (at + 5) m (after_there s at (verdict_bytes (counts h needed granted)) e),
    )

-- Only groups are stored.
sums_stored : (vs : List Verdict) → gather verdict_bytes (only on_group vs) ≡ gather verdict_bytes vs
unfolding gather only on_group verdict_bytes
sums_stored [] = refl
sums_stored (flag p b ∷ vs) = sums_stored vs
sums_stored (counts h n g ∷ vs) = rw (sums_stored vs)

sums_five : (vs : List Verdict) → length (gather verdict_bytes (only on_group vs)) ≡ 5 * length (only on_group vs)
unfolding gather only on_group verdict_bytes count_bytes
sums_five [] = refl
sums_five (flag p b ∷ vs) = sums_five vs
sums_five (counts h n g ∷ vs) = let k = sums_five vs in omega arith

-- The bits of a map.
bits_back : {A : Type 0} (f : Bool → Bool → Bool → Bool → A) (r w a l : Bool) (m : ℕ) → m ≡ bit r 1 + (bit w 2 + (bit a 4 + bit l 16))
    → f (has_bit 1 m) (has_bit 2 m) (has_bit 4 m) (has_bit 16 m) ≡ f r w a l
unfolding bit has_bit
bits_back f true true true true m e = rw e
bits_back f true true true false m e = rw e
bits_back f true true false true m e = rw e
bits_back f true true false false m e = rw e
bits_back f true false true true m e = rw e
bits_back f true false true false m e = rw e
bits_back f true false false true m e = rw e
bits_back f true false false false m e = rw e
bits_back f false true true true m e = rw e
bits_back f false true true false m e = rw e
bits_back f false true false true m e = rw e
bits_back f false true false false m e = rw e
bits_back f false false true true m e = rw e
bits_back f false false true false m e = rw e
bits_back f false false false true m e = rw e
bits_back f false false false false m e = rw e

-- How many groups, and then each, where there is one.
module _ (s after : List ℕ) (place : ℕ) where
  count_there : (sums : List Verdict) → drop place s ≡ sums_bytes sums ++ after → items_in (not (is_empty sums)) s place ≡ length sums
  unfolding items_in is_empty sums_bytes
  count_there [] e = refl
  count_there (v ∷ sums) e = first_there s place e

  list_there : (sums : List Verdict) → drop place s ≡ sums_bytes sums ++ after → (t : List ℕ) × (drop (place + 1) s ≡ gather verdict_bytes sums ++ t)
  unfolding gather sums_bytes
  list_there [] e = (drop (place + 1) s, refl)
  list_there (v ∷ sums) e = (after, after_there s place (length (v ∷ sums) ∷ []) e)

list_end : (place : ℕ) (sums : List Verdict) → length (gather verdict_bytes sums) ≡ 5 * length sums
    → end_of (not (is_empty sums)) place (length sums) ≡ place + length (sums_bytes sums)
unfolding end_of is_empty sums_bytes
list_end place [] h = omega arith
list_end place (v ∷ sums) h = omega arith

empty_map : {A B : Type 0} (f : A → B) (xs : List A) → is_empty xs ≡ is_empty (map f xs)
unfolding is_empty
empty_map f [] = refl
empty_map f (x ∷ xs) = refl

module _ (policy : List Tree) (required : Required) (e : Entry) where
  abbrev path : List ℕ
  path = e.component.path

  abbrev purpose : ℕ
  purpose = e.component.purpose

  abbrev verdicts : List Verdict
  verdicts = covering policy required e

  abbrev sums : List Verdict
  sums = only on_group verdicts

  -- There is a verdict on a group exactly where the entry discloses to one, as bit 4 of its map says.
  sums_empty : is_empty e.disclose ≡ is_empty sums
  sums_empty = rw (group_sums policy required e) (empty_map (sum_of policy required e) e.disclose)

  -- The entry where it stands.
  module _ (s after : List ℕ) (at : ℕ) (here : drop at s ≡ slack_entry policy required e ++ after) where
    abbrev place : ℕ
    place = at + 4 + length path

    path_there : drop (at + 2) s ≡ path ++ (purpose ∷ map_of e ∷ (sums_bytes sums ++ after))
    unfolding slack_entry
    path_there = after_there s at (e.kind ∷ length path ∷ []) here ∙ append_assoc path (purpose ∷ map_of e ∷ sums_bytes sums) after

    purpose_there : drop (at + 2 + length path) s ≡ purpose ∷ map_of e ∷ (sums_bytes sums ++ after)
    purpose_there = after_there s (at + 2) path path_there

    map_there : drop (at + 3 + length path) s ≡ map_of e ∷ (sums_bytes sums ++ after)
    map_there =
        let z : at + 2 + length path + 1 ≡ at + 3 + length path = omega arith in
        rw z at (after_there s (at + 2 + length path) (purpose ∷ []) purpose_there)

    sums_there : drop place s ≡ sums_bytes sums ++ after
    sums_there =
        let z : at + 3 + length path + 1 ≡ place = omega arith in
        rw z at (after_there s (at + 3 + length path) (map_of e ∷ []) map_there)

    kind_is : get_or s at 0 ≡ e.kind
    unfolding slack_entry
    kind_is = first_there s at here

    len_is : path_len s at ≡ length path
    unfolding path_len slack_entry
    len_is = byte_there s at 1 here

    purpose_is : purpose_in s at ≡ purpose
    unfolding purpose_in
    purpose_is = rw (len_is, first_there s (at + 2 + length path) purpose_there)

    map_is : map_in s at ≡ bit e.read 1 + (bit e.write 2 + (bit e.access 4 + bit (not (is_empty sums)) 16))
    unfolding map_in map_of
    map_is = rw (len_is, first_there s (at + 3 + length path) map_there, sums_empty)

    place_is : list_place s at ≡ place
    unfolding list_place
    place_is = rw len_is

    items_are : Storable verdicts → items_text (items_at (length sums) s (place + 1)) ≡ gather verdict_text verdicts
    items_are k =
        let l = list_there s after place sums sums_there in
        items_there s l.0 (place + 1) k (rw (← sums_stored verdicts) l.1)

    line_there : Storable verdicts → line_at s at ≡ line_of e verdicts
    unfolding line_at line_text item_count line_of
    line_there k =
        rw (kind_is, len_is, purpose_is, place_is, bytes_there path s _ (at + 2) path_there)
        (bits_back (λ r w a l. line_text e.kind path purpose r w a (items_at (items_in l s place) s (place + 1))) e.read e.write e.access (not (is_empty sums)) (map_in s at) map_is
        ∙ rw (count_there s after place sums sums_there, items_are k))

    next_there : next_at s at ≡ at + length (slack_entry policy required e)
    unfolding next_at item_count slack_entry
    next_there =
        rw place_is
        (bits_back (λ r w a l. end_of l place (items_in l s place)) e.read e.write e.access (not (is_empty sums)) (map_in s at) map_is
        ∙ rw (count_there s after place sums sums_there, list_end place sums (sums_five verdicts))
        (omega (arith, length-append path (purpose ∷ map_of e ∷ sums_bytes sums))))

  -- The law: whatever stands before and after it, an entry's line is that of the entry and its covering.
  module _ (before after : List ℕ) where
    pub line_law : Storable (covering policy required e)
        → line_at (before ++ (slack_entry policy required e ++ after)) (length before) ≡ line_of e (covering policy required e)
    line_law k =
        line_there (before ++ (slack_entry policy required e ++ after)) after (length before)
        (drop-append_seam before (slack_entry policy required e ++ after)) k

    pub next_law : next_at (before ++ (slack_entry policy required e ++ after)) (length before) ≡ length before + length (slack_entry policy required e)
    next_law =
        next_there (before ++ (slack_entry policy required e ++ after)) after (length before)
        (drop-append_seam before (slack_entry policy required e ++ after))

-- The lines of entries that stand one after the other.
module _ (policy : List Tree) (required : Required) where
  abbrev entries : List Entry → List ℕ
  entries es = gather (slack_entry policy required) es

  first_entry : (e : Entry) (es : List Entry) (s after : List ℕ) (at : ℕ) → drop at s ≡ entries (e ∷ es) ++ after
      → drop at s ≡ slack_entry policy required e ++ (entries es ++ after)
  unfolding gather
  first_entry e es s after at here = here ∙ append_assoc (slack_entry policy required e) (entries es) after

  next_entry : (e : Entry) (es : List Entry) (s after : List ℕ) (at : ℕ) → drop at s ≡ entries (e ∷ es) ++ after → drop (next_at s at) s ≡ entries es ++ after
  next_entry e es s after at here =
      let first = first_entry e es s after at here in
      rw (next_there policy required e s (entries es ++ after) at first) (after_there s at (slack_entry policy required e) first)

  lines_there : {es : List Entry} (s after : List ℕ) (at : ℕ) → All (λ e. Storable (covering policy required e)) es → drop at s ≡ entries es ++ after
      → lines_in (length es) s at ≡ map (λ e. line_of e (covering policy required e)) es
  unfolding lines_in
  lines_there s after at done here = refl
  lines_there s after at (also {x = e} {xs = es} k more) here =
      rw (
        line_there policy required e s (entries es ++ after) at (first_entry e es s after at here) k,
        lines_there s after (next_at s at) more (next_entry e es s after at here),
      )

  end_there : (es : List Entry) (s after : List ℕ) (at : ℕ) → drop at s ≡ entries es ++ after → place_after (length es) s at ≡ at + length (entries es)
  unfolding place_after gather
  end_there [] s after at here = omega arith
  end_there (e ∷ es) s after at here =
      end_there es s after (next_at s at) (next_entry e es s after at here)
      ∙ rw (next_there policy required e s (entries es ++ after) at (first_entry e es s after at here))
      (omega (arith, length-append (slack_entry policy required e) (entries es)))

  -- The law for entries: read on from the first byte, they give their lines in turn, and the last ends where the bytes do.
  module _ (es : List Entry) where
    whole : drop 0 (entries es) ≡ entries es ++ []
    whole = sym (append-nil (entries es))

    pub lines_law : All (λ e. Storable (covering policy required e)) es
        → lines_in (length es) (gather (slack_entry policy required) es) 0 ≡ map (λ e. line_of e (covering policy required e)) es
    lines_law k = lines_there (entries es) [] 0 k whole

    pub end_law : place_after (length es) (gather (slack_entry policy required) es) 0 ≡ length (gather (slack_entry policy required) es)
    end_law = end_there es (entries es) [] 0 whole ∙ omega arith

-- So for every sheet that is accepted: the lines that the program prints are those of its entries and their coverings.
module _ (s c : List ℕ) (a : Accepted) (passes : judged s c ≡ passed a) where
  pub accepted_lines : lines_in (length (interface a.sheet)) (slack_bytes a.policy (required_of a.sheet)) 0
      ≡ map (λ e. line_of e (covering a.policy (required_of a.sheet) e)) (interface a.sheet)
  unfolding slack_bytes required_of
  accepted_lines = lines_law a.policy (required_of a.sheet) (interface a.sheet) (counts_stored s c a passes)

  pub accepted_end : place_after (length (interface a.sheet)) (slack_bytes a.policy (required_of a.sheet)) 0
      ≡ length (slack_bytes a.policy (required_of a.sheet))
  unfolding slack_bytes required_of
  accepted_end = end_law a.policy (required_of a.sheet) (interface a.sheet)
