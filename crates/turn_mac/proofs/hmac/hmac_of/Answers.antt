use Rattle.std.proofs.Common.{◌≡◌, ℕ, ◌+◌, ◌<◌, List, [], ◌++◌, length, map, take, get_or, Bor, append_assoc}
use Rattle.std.specs.List.{concat}
use Rattle.std.proofs.lemmas.List.{take_more, map-append, append-nil}
use Rattle.std.proofs.lemmas.List.Folds.{concat-append}
use Rattle.turn_mac.proofs.hmac.hmac_of.Goals as goal

one_more : (front : List ℕ) (pieces : List (Bor (List ℕ))) (i : ℕ) → i < length pieces
    → front ++ concat (map (λ piece. piece.now) (take (i + 1) pieces)) ≡ (front ++ concat (map (λ piece. piece.now) (take i pieces))) ++ (get_or pieces i (record { ref_ptr = (0, 0); now = [] })).now
one_more front pieces i h = rw (take_more pieces i (record { ref_ptr = (0, 0); now = [] }) h, map-append, concat-append, append-nil, ← append_assoc)

pub loop-piece-preserved : goal.loop-piece-preserved
loop-piece-preserved g c =
    rw (one_more _ c.args.pieces.now c.loop-piece.piece-index c.loop-piece-test.true) (c.update-in-loop-piece.ensures _ c.loop-piece.invariant)
