use Rattle.bpf_decode.proofs.Programs.{only_spelled}
use Rattle.bpf_decode.proofs.decoder.decode.Goals as goal

pub returns-clause-only : goal.returns-clause-only
returns-clause-only c = λ spelled h. only_spelled c.args.bytes.now c.program.result spelled c.program.ensures.found c.program.ensures.fault h
