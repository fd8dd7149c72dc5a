use Rattle.std.proofs.Common.{◌≡◌}
use Rattle.mm_devices.specs.{device_with}
use Rattle.mm_unpaged.specs.{WroteDevice, Stored}
use Rattle.mm_unpaged.proofs.files.write_file.Given as goal

abbrev pub invariant-loop-i : goal.invariant-loop-i
invariant-loop-i g l =
    let d = g.F.Inject in
    record {
      stored : Stored l.first l.i l.made.items (d.blocks l.fn.device) (d.blocks l.device);
      wrote : WroteDevice (device_with (d.log l.fn.device) (d.named l.fn.device) (d.faults l.fn.device)) (device_with (d.log l.device) (d.named l.device) (d.faults l.device)) l.fn.writes l.writes;
      quiet : l.writes.failed ≡ l.fn.writes.failed;
      same_loans : d.loans l.device ≡ d.loans l.fn.device;
    }
