-- What contracts see of a header.
--     header_of stage      what the lines that were read say
--     IsHeader h      what is true of every header: the names are some, their weights are those of a job, and the
--         tree is one over them
--     header_code      headers as numbers, lists and trees
use Rattle.std.specs.Prelude.{◌≡◌, ℕ, ◌<◌, List, length, ◌⊎◌, refl}
use Rattle.std.specs.Coded.{Coded, code_by, coded×, coded⊎, coded_ℕ, coded_list}
use mathlib.Core.Logic.{inl, inr}
use Rattle.ps_model.specs.AcceptedJob.{AreWeights}
use Rattle.ps_model.specs.Tree.{IsValidTree}
use Rattle.ps_model.specs.contracts.expr.Expr.{the_row}
use Rattle.ps_model.specs.declared.expr.Expr.{Expr}
use Rattle.residue.specs.Residues.{number_of}
use Rattle.script.specs.Header.{Header, Empty, WithModulus, WithNames, WithTree}
use Rattle.script.specs.declared.header.Stage.{Stage}
use Rattle.script.specs.declared.header.Stage.TheVariants as stage

abbrev pub header_of : Stage → Header
header_of stage.Empty = Empty
header_of (stage.WithModulus m) = WithModulus (number_of m)
header_of (stage.WithNames m names ws) = WithNames (number_of m) names ws
header_of (stage.WithTree m names ws e) = WithTree (number_of m) names ws e

abbrev pub IsHeader : Header → Type 0
IsHeader Empty = Unit {0}
IsHeader (WithModulus m) = Unit {0}
IsHeader (WithNames m names ws) = (0 < length names) × AreWeights (length names) ws
IsHeader (WithTree m names ws e) =
    (0 < length names) × AreWeights (length names) ws × IsValidTree (length names) e

-- a header as one of four
abbrev Cases : Type 0
Cases = ℕ ⊎ (ℕ ⊎ ((ℕ × (List (List ℕ) × List ℕ)) ⊎ (ℕ × (List (List ℕ) × (List ℕ × Expr)))))

abbrev cases_of : Header → Cases
cases_of Empty = inl 0
cases_of (WithModulus m) = inr (inl m)
cases_of (WithNames m names ws) = inr (inr (inl (m, (names, ws))))
cases_of (WithTree m names ws e) = inr (inr (inr (m, (names, (ws, e)))))

abbrev of_cases : Cases → Header
of_cases (inl n) = Empty
of_cases (inr (inl m)) = WithModulus m
of_cases (inr (inr (inl p))) = WithNames p.0 p.1.0 p.1.1
of_cases (inr (inr (inr p))) = WithTree p.0 p.1.0 p.1.1.0 p.1.1.1

pub of_cases-cases_of : (h : Header) → of_cases (cases_of h) ≡ h
of_cases-cases_of Empty = refl
of_cases-cases_of (WithModulus m) = refl
of_cases-cases_of (WithNames m names ws) = refl
of_cases-cases_of (WithTree m names ws e) = refl

abbrev pub header_code : Coded Header
header_code = code_by Cases
    (coded⊎ coded_ℕ (coded⊎ coded_ℕ (coded⊎ (coded× coded_ℕ (coded× (coded_list (coded_list coded_ℕ))
    (coded_list coded_ℕ)))
    (coded× coded_ℕ (coded× (coded_list (coded_list coded_ℕ)) (coded× (coded_list coded_ℕ) the_row.coded))))))
    cases_of of_cases of_cases-cases_of
