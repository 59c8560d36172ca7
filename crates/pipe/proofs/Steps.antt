-- One step of a worker, over what is seen of a stage.
use Rattle.std.proofs.Common.{◌≡◌, ℕ, List, suc, ◌+◌, ◌≤◌, length, sym, ap, subst, arith}
use Rattle.std.specs.declared.sync.Arc.{Arc}
use Rattle.std.specs.declared.alloc.Global.{Global}
use Rattle.ps_model.specs.AcceptedJob.{IsAccepted}
use Rattle.ps_model.specs.declared.job.JobData.{JobData}
use Rattle.parts.specs.JobRows.{IsInputRow}
use Rattle.parts.specs.PartValue.{PartValue}
use Rattle.parts.specs.RowsOfParts.{parts_of}
use Rattle.stages.proofs.Upstreams.{input_upstream, next_upstream}
use Rattle.stages.specs.Items.{StageItemValue, IsItem}
use Rattle.stages.specs.Slices.{IsUpstream}
use Rattle.stages.specs.States.{StageState, KeepsStage, PutsOne, prepared_of}
use Rattle.pipe.specs.Looks.{ReaderState}
use Rattle.pipe.specs.Works.{WorkState, Works, IsBehind, count_of, prepared_in}

-- the stage put its item; b is what it was then, and publishing changed nothing of that
pub put_works : (w v : WorkState) (b : StageState) → KeepsStage w.stage b → PutsOne w.stage b → v.stage ≡ b
    → Works (count_of w + 1) w v
put_works w v b kept puts same = record {
  kept = subst (KeepsStage w.stage) (sym same) kept;
  items = let e = ap (λ (s : StageState). length s.items) same in let c = puts.count in omega arith;
  prepared = let e = ap prepared_of same in let c = puts.count in let p = puts.prepared in omega arith;
}

-- it didn't
pub refused_works : (w v : WorkState) → KeepsStage w.stage v.stage → v.stage.items ≡ w.stage.items
    → prepared_in v ≤ count_of v + 1 → Works (count_of w + 1) w v
refused_works w v kept same ahead = let e = ap length same in record {
  kept = kept;
  items = omega arith;
  prepared = omega arith;
}

-- what the stage before leaves is what the stage takes
pub later_upstream : (reader : ReaderState) (w : WorkState) (r : ℕ) (item : StageItemValue) → IsBehind reader w
    → count_of w ≡ r → IsItem reader.title r item
    → IsUpstream w.stage.title.job w.stage.title.stage (count_of w) item.left
later_upstream reader w r item behind next fits =
    subst (λ n. IsUpstream w.stage.title.job w.stage.title.stage n item.left) (sym next)
    (subst (λ s. IsUpstream w.stage.title.job s r item.left) (sym behind.stage)
    (subst (λ j. IsUpstream j (suc reader.title.stage) r item.left) (sym behind.job) fits.left))

pub later_takes : (reader : ReaderState) (w : WorkState) (r : ℕ) (item : StageItemValue) (row : List PartValue)
    → IsBehind reader w → count_of w ≡ r → IsItem reader.title r item → row ≡ item.left
    → IsUpstream w.stage.title.job w.stage.title.stage (count_of w) row
later_takes reader w r item row behind next fits same =
    subst (IsUpstream w.stage.title.job w.stage.title.stage (count_of w)) (sym same)
    (later_upstream reader w r item behind next fits)

-- the row of the job's polynomial is what the first stage takes
pub first_takes : (job : JobData) (w : WorkState) (r : ℕ) (parts row : List (Arc PartValue Global))
    → w.stage.title ≡ record { job = job; stage = 0 } → IsAccepted job → count_of w ≡ r
    → IsInputRow job r (parts_of parts) → row ≡ parts
    → IsUpstream w.stage.title.job w.stage.title.stage (count_of w) (parts_of row)
first_takes job w r parts row title ok next is same =
    next_upstream job 0 r (parts_of row) w.stage.title (count_of w) title next
    (subst (λ l. IsUpstream job 0 r (parts_of l)) (sym same) (input_upstream job r (parts_of parts) ok is))
