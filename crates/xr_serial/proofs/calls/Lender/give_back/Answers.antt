use Rattle.xr_serial.proofs.calls.Lender.give_back.Goals as goal

pub returns : goal.returns
returns c = rw (← c.self.view_is) (c.compose.new.frame, c.compose.ensures)
