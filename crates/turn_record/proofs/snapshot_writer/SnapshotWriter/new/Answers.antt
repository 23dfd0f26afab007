use Rattle.std.proofs.Common.{◌≡◌, ℕ, ◌∷◌, [], ◌++◌, List, ap, ◌∙◌, arith}
use Rattle.std.specs.FinMap as fin
use Rattle.std.specs.Int.{w32, w64, to_be_bytes}
use Rattle.turn_record.specs.Prelude.{head, snapshot}
use Rattle.turn_record.proofs.Appended.{appended, no_more}
use Rattle.turn_record.proofs.SnapshotSizes.{are_short}
use Rattle.turn_record.proofs.snapshot_writer.SnapshotWriter.new.Goals as goal

pub of-requires : goal.of-requires
of-requires g c =
    let s = c.args.table.now in
    let range = c.limits-limits.ensures.range in
    record { short = are_short s.bounds s.moment s.contents range c.moment.ensures.at; few = omega (arith, c.moment.ensures.at.within.reserved, range.allocations.1) }

pub returns : goal.returns
unfolding snapshot
returns g c =
    let s = c.args.table.now in
    let moment = to_be_bytes w64 s.moment in
    let count = to_be_bytes w32 (fin.len s.contents.entries) in
    let at : c.to_be_bytes.result ≡ moment = c.to_be_bytes.ensures ∙ ap (to_be_bytes w64) (c.seconds.ensures.value ∙ c.moment.ensures.value) in
    let many : c.to_be_bytes-2.result ≡ count = c.to_be_bytes-2.ensures ∙ ap (to_be_bytes w32) c.len.ensures in
    let put =
    appended c.new-held.result c.put.new.self c.put-2.new.self moment (count ∷ []) (c.put.ensures ∙ ap (λ (u : List ℕ). c.new-held.result ++ u) at)
    (appended _ c.put-2.new.self _ count [] (c.put-2.ensures ∙ ap (λ (u : List ℕ). c.put.new.self ++ u) many) (no_more _)) in
    let first = put ∙ ap (λ (u : List ℕ). u ++ head s.moment (fin.len s.contents.entries)) c.new-held.ensures in
    ap (λ (u : List ℕ). u ++ c.of.result) first ∙ ap (λ (u : List ℕ). head s.moment (fin.len s.contents.entries) ++ u) c.of.ensures
