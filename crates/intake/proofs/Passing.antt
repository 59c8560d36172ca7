-- Divisors that are passed one after another, up to the first bad one.
use Rattle.std.proofs.Common.{◌≡◌, ℕ, zero, suc, ◌+◌, ◌<◌, ◌≤◌, List, [], ◌∷◌, ◌++◌, length}
use Rattle.std.proofs.Common.{refl, sym, ◌∙◌, ap, subst, arith, append_assoc, append-nil, length-append}
use Rattle.std.specs.Prelude.{Some, slice_get}
use Rattle.std.specs.List.{All}
use Rattle.std.proofs.lemmas.List.Elements.{All-nil, All-cons, All-append, All-head, All-tail}
use Rattle.ps_model.specs.declared.expr.Expr.{Expr}
use Rattle.ps_model.specs.Input.{told_count}
use Rattle.intake.specs.Passes.{ArePassed, IsStopped}

-- counts that are told one after another
told_twice : (a b c k l : ℕ) → b ≡ told_count (a + k) → c ≡ told_count (b + l) → c ≡ told_count (a + (k + l))
told_twice a b c k l e f = omega arith

told_behind : (a b p k l : ℕ) → b ≡ told_count (a + k) → p ≡ told_count (b + l + 1) → p ≡ told_count (a + (k + l) + 1)
told_behind a b p k l e f = omega arith

module _ (Good : Expr → Type 0) where
  pub passed-nil : (seen : ℕ) → seen ≤ 4294967295 → ArePassed Good [] seen seen
  passed-nil seen le = record { good = All-nil Good; counted = omega arith }

  pub passed-append : (ds es : List Expr) (a b c : ℕ) → ArePassed Good ds a b → ArePassed Good es b c
      → ArePassed Good (ds ++ es) a c
  passed-append ds es a b c h k = record {
    good = All-append Good ds es h.good k.good;
    counted = told_twice a b c (length ds) (length es) h.counted k.counted
        ∙ ap (λ n. told_count (a + n)) (sym (length-append ds es));
  }

  pub passed-cons : (d : Expr) (ds : List Expr) (a b c : ℕ) → Good d → b ≡ told_count (a + 1)
      → ArePassed Good ds b c → ArePassed Good (d ∷ ds) a c
  passed-cons d ds a b c good e h = record {
    good = All-cons Good d ds good h.good;
    counted = told_twice a b c 1 (length ds) e h.counted ∙ ap (λ n. told_count (a + n)) (one_more (length ds));
  }
    where
      one_more : (n : ℕ) → 1 + n ≡ suc n
      one_more n = omega arith

  module _ (Bad : Expr → Type 0) where
    pub stopped-append : (ds es : List Expr) (a p : ℕ) → IsStopped Good Bad ds a p → IsStopped Good Bad (ds ++ es) a p
    stopped-append ds es a p h = record {
      before = h.before;
      one = h.one;
      after = h.after ++ es;
      split = ap (λ xs. xs ++ es) h.split ∙ append_assoc h.before (h.one ∷ h.after) es;
      good = h.good;
      bad = h.bad;
      told = h.told;
    }

    pub stopped-behind : (ds es : List Expr) (a b p : ℕ) → ArePassed Good ds a b → IsStopped Good Bad es b p
        → IsStopped Good Bad (ds ++ es) a p
    stopped-behind ds es a b p h k = record {
      before = ds ++ k.before;
      one = k.one;
      after = k.after;
      split = ap (λ xs. ds ++ xs) k.split ∙ sym (append_assoc ds k.before (k.one ∷ k.after));
      good = All-append Good ds k.before h.good k.good;
      bad = k.bad;
      told = told_behind a b p (length ds) (length k.before) h.counted k.told
          ∙ ap (λ n. told_count (a + n + 1)) (sym (length-append ds k.before));
    }

    pub stopped-first : (d : Expr) (ds : List Expr) (a p : ℕ) → Bad d → p ≡ told_count (a + 1)
        → IsStopped Good Bad (d ∷ ds) a p
    stopped-first d ds a p bad e = record {
      before = [];
      one = d;
      after = ds;
      split = refl;
      good = All-nil Good;
      bad = bad;
      told = e ∙ ap (λ n. told_count (n + 1)) (none a);
    }
      where
        none : (a : ℕ) → a ≡ a + 0
        none a = omega arith

    pub stopped-cons : (d : Expr) (ds : List Expr) (a b p : ℕ) → Good d → b ≡ told_count (a + 1)
        → IsStopped Good Bad ds b p → IsStopped Good Bad (d ∷ ds) a p
    stopped-cons d ds a b p good e h = record {
      before = d ∷ h.before;
      one = h.one;
      after = h.after;
      split = ap (λ xs. d ∷ xs) h.split;
      good = All-cons Good d h.before good h.good;
      bad = h.bad;
      told = told_behind a b p 1 (length h.before) e h.told
          ∙ ap (λ n. told_count (a + n + 1)) (one_more (length h.before));
    }
      where
        one_more : (n : ℕ) → 1 + n ≡ suc n
        one_more n = omega arith

-- a loop over a list's divisors: those before have been passed, the rest are left
pub record Going (Good : Expr → Type 0) (whole rest : List Expr) (seen now : ℕ) : Type 0 where
  before : List Expr
  split : whole ≡ before ++ rest
  passed : ArePassed Good before seen now

module _ (Good : Expr → Type 0) (whole : List Expr) (seen : ℕ) where
  pub going-start : (rest : List Expr) → whole ≡ rest → seen ≤ 4294967295 → Going Good whole rest seen seen
  going-start rest e le = record { before = []; split = e; passed = passed-nil Good seen le }

  pub going-more : (rest ds later : List Expr) (now next : ℕ) → rest ≡ ds ++ later → Going Good whole rest seen now
      → ArePassed Good ds now next → Going Good whole later seen next
  going-more rest ds later now next e h k = record {
    before = h.before ++ ds;
    split = h.split ∙ ap (λ xs. h.before ++ xs) e ∙ sym (append_assoc h.before ds later);
    passed = passed-append Good h.before ds seen now next h.passed k;
  }

  pub going-end : (rest : List Expr) (now : ℕ) → rest ≡ [] → Going Good whole rest seen now
      → ArePassed Good whole seen now
  going-end rest now e h = subst (λ ds. ArePassed Good ds seen now)
      (sym (h.split ∙ ap (λ xs. h.before ++ xs) e ∙ append-nil h.before)) h.passed

  pub going-stop : (Bad : Expr → Type 0) (rest ds later : List Expr) (now p : ℕ) → rest ≡ ds ++ later
      → Going Good whole rest seen now → IsStopped Good Bad ds now p → IsStopped Good Bad whole seen p
  going-stop Bad rest ds later now p e h k = subst (λ xs. IsStopped Good Bad xs seen p)
      (sym (h.split ∙ ap (λ xs. h.before ++ xs) e))
      (stopped-behind Good Bad h.before (ds ++ later) seen now p h.passed (stopped-append Good Bad ds later now p k))

-- members by their places
same_some : (a b : Expr) → Some a ≡ Some b → a ≡ b
same_some a b e = cc

pub none_at : (P : Expr → Type 0) (ds : List Expr) (i : ℕ) (d : Expr) → All P ds → slice_get ds i ≡ Some d → P d
none_at P [] i d h at = absurd (cc)
none_at P (e ∷ ds) zero d h at = subst P (same_some e d at) (All-head P e ds h)
none_at P (e ∷ ds) (suc i) d h at = none_at P ds i d (All-tail P e ds h) at

pub at_stop : (before after : List Expr) (one : Expr) → slice_get (before ++ one ∷ after) (length before) ≡ Some one
at_stop [] after one = refl
at_stop (d ∷ before) after one = at_stop before after one

pub before_stop : (before after : List Expr) (one : Expr) (i : ℕ) → i < length before
    → slice_get (before ++ one ∷ after) i ≡ slice_get before i
before_stop [] after one i lt = absurd (omega arith)
before_stop (d ∷ before) after one zero lt = refl
before_stop (d ∷ before) after one (suc i) lt = before_stop before after one i (omega arith)
