use Rattle.std.proofs.Common.{◌≡◌, [], ap, subst}
use Rattle.std.specs.Result.{result_unwrap_or}
use Rattle.turn_codec.specs.Prelude.{fingerprint, Datagram, from}
use Rattle.texts.proofs.questions.messages.add_fingerprint.Goals as goal

pub append_fingerprint-requires : goal.append_fingerprint-requires
append_fingerprint-requires c =
    let written : Datagram = record { bytes = c.as_bytes.result.now; content = c.args.builder.now } in
    let read = c.in-Ok.ensures.only c.args.builder.now c.as_bytes.ensures.encodes in
    let same = ap (λ r. result_unwrap_or r written) read in
    subst (λ (d : Datagram). from fingerprint d.content.attributes ≡ []) same c.in-None.ensures.found
