use Rattle.std.proofs.Common.{rules}
use Rattle.xr_drive.proofs.files.open_beside.Goals as goal

pub returns-in-Ok-start-clause-ready : goal.returns-in-Ok-start-clause-ready
returns-in-Ok-start-clause-ready g c = record {
  is = search rules;
  start = record {
    given = search rules;
    remaining = search rules;
    text = search rules;
    begun = search rules;
    late = search rules;
    which = search rules;
    faults = search rules;
  };
  opens = search rules;
  reads = search rules;
  asked = search rules;
  device_asked = search rules;
  within = search rules;
  closed = search rules;
  same = search rules;
}
