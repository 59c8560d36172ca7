use Rattle.std.proofs.Common.{◌≡◌, inl, inr, arith}
use Rattle.commands.proofs.RunsTold.{ran_demo, ran_demo_stopped}
use Rattle.commands.proofs.program.run_demo.Goals as goal

pub returns-in-Ok : goal.returns-in-Ok
returns-in-Ok g c = λ left read.
    let told = c.in-Ok.ensures in
    ran_demo c.args.seed left read _ _ _ _ _ _ told.ok told.faults told.steps

pub returns-in-Err-Write : goal.returns-in-Err-Write
returns-in-Err-Write g c = λ left read.
    let told = c.in-Err-Write.ensures in
    ran_demo_stopped c.args.seed c.status.result left read _ _ _ _ _ _ (inl c.status.ensures)
    (λ four. told.fault c.in-Err-Write.field-0-is) told.err told.faults told.more told.at_most

pub returns-in-Err-OutOfMemory : goal.returns-in-Err-OutOfMemory
returns-in-Err-OutOfMemory g c = λ left read.
    let told = c.in-Err-OutOfMemory.ensures in
    ran_demo_stopped c.args.seed c.status-in-Err-OutOfMemory.result left read _ _ _ _ _ _
    (inr c.status-in-Err-OutOfMemory.ensures)
    (λ four. absurd (let five : c.status-in-Err-OutOfMemory.result ≡ 5 = c.status-in-Err-OutOfMemory.ensures in
    omega arith)) told.err told.faults told.more told.at_most
