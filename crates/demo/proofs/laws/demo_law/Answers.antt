use Rattle.demo.proofs.DemoJobs.{accepted, one_text}
use Rattle.demo.proofs.laws.demo_law.Goals as goal

pub returns : goal.returns
returns c = record { job = accepted; text = one_text }
