-- The numbers of the refusals of a job.
use Rattle.std.specs.Prelude.{ℕ}
use Rattle.report.specs.declared.fault.JobFault.{JobFault}
use Rattle.report.specs.declared.fault.JobFault.TheVariants.{Places, Length, Model, Question}

abbrev pub fault_number : JobFault → ℕ
fault_number Places = 41
fault_number Length = 42
fault_number (Model f) = 44
fault_number (Question f) = 46
