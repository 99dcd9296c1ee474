use Rattle.xr_drive.proofs.program.run_program.Goals as goal

pub returns : goal.returns
returns g c = record { status = c.run_serial-status.result; answer = c.run_serial-status.ensures; exits = c.end_with.ensures.number; says = c.end_with.ensures.says }
