use Rattle.store.proofs.SoundLaws.{sound-parts}
use Rattle.record_write.proofs.FramedLaws.{sound-framed}
use Rattle.temperature.proofs.SampleLaws.{sample-ready, log-framed, sample-written}
use native.Mathlib.Omega.{arith}
use Rattle.temperature.proofs.logging.sample.Goals as goal

pub decode-d-requires : goal.decode-d-requires
decode-d-requires c = (sound-parts c.args.device.now c.requires).size

pub log_sample-requires : goal.log_sample-requires
log_sample-requires c =
    let ready = sample-ready c.args.reading c.args.device.now c.decode-d.result c.decode-d.ensures (λ i. omega (arith, c.slice_known-1.given i)) c.requires in
    ((sound-parts c.args.device.now c.requires).size, ready.0, ready.1)

pub sampled_device-e-requires : goal.sampled_device-e-requires
sampled_device-e-requires c =
    sample-ready c.args.reading c.args.device.now c.decode-d.result c.decode-d.ensures (λ i. omega (arith, c.slice_known-1.given i)) c.requires

pub write-requires : goal.write-requires
write-requires c =
    let d = c.decode-d.result in
    rw c.log_sample.ensures
    (log-framed d.thermal d.settings.log_interval.state c.args.reading c.args.device.now (sound-framed c.args.device.now (λ i. omega (arith, c.slice_known-1.given i)) c.requires))

pub returns : goal.returns
returns c =
    let ready = sample-ready c.args.reading c.args.device.now c.decode-d.result c.decode-d.ensures (λ i. omega (arith, c.slice_known-1.given i)) c.requires in
    rw (c.write.ensures.device_after, c.log_sample.ensures)
    (sample-written c.args.reading c.args.device.now c.decode-d.result c.decode-d.ensures c.sampled_device-e.result ready.1 c.sampled_device-e.ensures)
