-- The forms of a block's lines, and the first line that has no lawful form at its place.
--     printed_order ws      keys by rising degree, within a degree by falling powers
--     IsTerm ring names D j t      a term of the coefficient of Y^j in a block of precision D: a residue other
--         than 0, a degree of at most D, and no power past the names
--     AreTerms ring names D j ts      such terms, each before the next in the order of printing
--     IsTermBefore ring names D j text t rest      the text is that of such a term, and `rest`, with which a line
--         goes on or ends
--     HasLine ring names D j text old new rest, HasNoLine ring names D j text      what reading a line's terms finds
--     FollowsBy ws last t      t stands behind the last term, where there is one
--     variable_names ring names      the names of the ring's variables
--     Form      of a line: a text that is known, or a known beginning and the terms of a coefficient behind it
--     IsLine ring names D form line      the line has this form, and its newline
--     lead_forms lead, factor_forms i roots      the forms of the lines of a lead, where it is shown, and of factors
--         that are counted from i, in order
--     HasMarkedLine, HasPowerLines, StopsBehind      what reading one line, and the lines of a factor, finds
--     IsFirstUnlawful ring names D forms text i l      where the lines are counted from i, the first that hasn't
--         the form at its place is line l; where the text ends early it is the one behind the last
use Rattle.std.specs.Prelude.{◌≡◌, ℕ, zero, suc, ◌+◌, ◌<◌, ◌≤◌, ◌⊎◌, Bool, true, T, List, [], ◌∷◌, ◌++◌, take, codes}
use Rattle.std.specs.Prelude.{decimal}
use Rattle.std.specs.Prelude.{if◌then◌else◌, Option, Some, None}
use Rattle.std.specs.Option.{option_map}
use Rattle.std.specs.declared.cmp.Ordering.TheVariants.{Less}
use Rattle.ps_model.specs.Plain.{key_of, entry_of}
use Rattle.ps_model.specs.declared.plain.PlainTerm.{PlainTerm}
use Rattle.std.specs.List.{AllByRecursion}
use Rattle.std.specs.Ordering.{nat_cmp, on, then_cmp}
use Rattle.std.specs.FinMap.{is_sorted}
use Rattle.std.specs.declared.cmp.Ordering.{Ordering}
use Rattle.ps_model.specs.declared.job.Root.{Root}
use Rattle.ps_model.specs.Keys.{Key, numbers, key_compare}
use Rattle.ps_model.specs.BlockText.{term_text, terms_text, newline}
use Rattle.ps_model.specs.PlainLists.{plain_degree}
use Rattle.parts.specs.Rings.{modulus_of, variables_of, eight_weights}
use Rattle.parts.specs.declared.rings.Ring.{Ring}
use Rattle.printer.specs.ReadForms.{IsNamed, ends}

unfoldable pub printed_order : List ℕ → Key 8 → Key 8 → Ordering
printed_order ws = then_cmp (on (plain_degree ws) nat_cmp) (key_compare 8)

abbrev pub variable_names : Ring → List (List ℕ) → List (List ℕ)
variable_names ring names = take (variables_of ring) names

module _ (ring : Ring) (names : List (List ℕ)) (D : ℕ) where
  pub record IsTerm (j : ℕ) (t : Key 8 × ℕ) : Type 0 where
    pub some : 0 < t.1
    pub residue : t.1 < modulus_of ring
    pub low : plain_degree (eight_weights ring) t.0 ≤ D
    pub is_named : IsNamed names (numbers 8 t.0.powers)
    pub y : t.0.y ≡ j

  pub record AreTerms (j : ℕ) (ts : List (Key 8 × ℕ)) : Type 0 where
    pub each : AllByRecursion (IsTerm j) ts
    pub in_order : T (is_sorted (printed_order (eight_weights ring)) ts)

  -- the text begins with such a term, behind which a line goes on or ends
  pub record IsTermBefore (j : ℕ) (text : List ℕ) (t : Key 8 × ℕ) (rest : List ℕ) : Type 0 where
    pub is_term : IsTerm j t
    pub rest_ends : ends rest ≡ true
    pub text_is : text ≡ term_text names t ++ rest

  -- the text begins with the terms of a line and its newline, behind which `rest` stands; with them the list grew
  pub record HasLine (j : ℕ) (text : List ℕ) (old new : List (Key 8 × ℕ)) (rest : List ℕ) : Type 0 where
    pub terms : List (Key 8 × ℕ)
    pub are : AreTerms j terms
    pub new_is : new ≡ old ++ terms
    pub text_is : text ≡ terms_text names terms ++ 10 ∷ rest

  -- the text begins with no terms of a line
  abbrev pub HasNoLine : ℕ → List ℕ → Type 0
  HasNoLine j text = (ts : List (Key 8 × ℕ)) (rest : List ℕ) → AreTerms j ts
      → text ≡ terms_text names ts ++ 10 ∷ rest → ⊥

-- a term stands behind the last one, where there is one; and what the code holds of that
abbrev pub FollowsBy : List ℕ → Option (Key 8 × ℕ) → Key 8 × ℕ → Type 0
FollowsBy ws None t = Unit {0}
FollowsBy ws (Some l) t = printed_order ws l.0 t.0 ≡ Less

abbrev pub IsGraded : List ℕ → Option (ℕ × PlainTerm) → Type 0
IsGraded ws None = Unit {0}
IsGraded ws (Some p) = p.0 ≡ plain_degree ws (key_of p.1)

abbrev pub last_entry : Option (ℕ × PlainTerm) → Option (Key 8 × ℕ)
last_entry last = option_map (λ p. entry_of p.1) last

pub data Form : Type 0 where
  Whole : List ℕ → Form
  Coefficient : List ℕ → ℕ → Form

abbrev pub IsLine : Ring → List (List ℕ) → ℕ → Form → List ℕ → Type 0
IsLine ring names D (Whole text) line = line ≡ text ++ newline
IsLine ring names D (Coefficient head j) line =
    (ts : List (Key 8 × ℕ)) × AreTerms ring names D j ts × (line ≡ head ++ (terms_text names ts ++ newline))

abbrev pub mark_text : ℕ → List ℕ
mark_text j = codes "Y^" ++ decimal j ++ codes ": "

-- the coefficients of the powers of Y from j down to 0
abbrev pub power_forms : ℕ → List Form
power_forms zero = Coefficient (mark_text 0) 0 ∷ []
power_forms (suc j) = Coefficient (mark_text (suc j)) (suc j) ∷ power_forms j

abbrev pub head_text : ℕ → Root → List ℕ
head_text i root =
    codes "factor " ++ decimal i ++ codes " root " ++ decimal root.value ++ codes " times " ++ decimal root.times

-- the factors are counted from i
abbrev pub factor_forms : ℕ → List Root → List Form
factor_forms i [] = []
factor_forms i (root ∷ roots) = Whole (head_text i root) ∷ (power_forms root.times ++ factor_forms (suc i) roots)

abbrev pub lead_forms : Bool → List Form
lead_forms lead = if lead then Coefficient (codes "lead: ") 0 ∷ [] else []

abbrev pub precision_text : ℕ → List ℕ
precision_text D = codes "precision " ++ decimal D

module _ (ring : Ring) (names : List (List ℕ)) (D : ℕ) where
  -- the text begins with a line of this form, and `rest` is behind it
  pub record BeginsWith (form : Form) (text rest : List ℕ) : Type 0 where
    pub line : List ℕ
    pub has_form : IsLine ring names D form line
    pub text_is : text ≡ line ++ rest

  -- the text begins with such a line, with whose terms the list grew
  pub record HasMarkedLine (j : ℕ) (mark text : List ℕ) (old new : List (Key 8 × ℕ)) (rest : List ℕ) : Type 0 where
    pub behind : List ℕ
    pub text_is : text ≡ mark ++ behind
    pub line : HasLine ring names D j behind old new rest

  abbrev pub IsFirstUnlawful : List Form → List ℕ → ℕ → ℕ → Type 0
  IsFirstUnlawful [] text i l = (text ≡ [] → ⊥) × (l ≡ i)
  IsFirstUnlawful (form ∷ forms) text i l =
      (((rest : List ℕ) → BeginsWith form text rest → ⊥) × (l ≡ i))
      ⊎ ((rest : List ℕ) × BeginsWith form text rest × IsFirstUnlawful forms rest (suc i) l)

  -- the text begins with the lines of the coefficients from Y^j down to Y^0, with whose terms the list grew
  abbrev pub HasPowerLines : ℕ → List ℕ → List (Key 8 × ℕ) → List (Key 8 × ℕ) → List ℕ → Type 0
  HasPowerLines zero text old new rest = HasMarkedLine 0 (mark_text 0) text old new rest
  HasPowerLines (suc j) text old new rest =
      (now : List (Key 8 × ℕ)) × (left : List ℕ) × HasMarkedLine (suc j) (mark_text (suc j)) text old now left
      × HasPowerLines j left now new rest

  -- of the lines of these coefficients the first that is unlawful has k lawful ones before it
  abbrev pub StopsBehind : ℕ → List ℕ → ℕ → Type 0
  StopsBehind j text k =
      (later : List Form) (i : ℕ) → IsFirstUnlawful (power_forms j ++ later) text i (i + k)
