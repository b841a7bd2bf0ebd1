-- What the definition gives is a reading of the format.
use mathlib.Core.Path.{◌≡◌}
use native.Mathlib.Omega.{arith}
use Rattle.std.proofs.Common.{rules}
use Rattle.pieces.specs.Pieces.{pieces_of}
use Rattle.pieces.proofs.Format.{pieces_read}
use Rattle.pieces.proofs.piece.read_pieces.Goals as goal

pub returns-in_err-walk : goal.returns-in_err-walk
unfolding pieces_of
returns-in_err-walk c =
    let e : c.from_residual.result ≡ pieces_of c.args.file.now = search rules in
    let r = pieces_read c.args.file.now (λ i. omega (arith, c.type_inv.file i)) c.from_residual.result e in
    record { exact = e; accepted = r.0; refused = r.1 }

pub returns : goal.returns
unfolding pieces_of
returns c =
    let e : c.complete.result ≡ pieces_of c.args.file.now = search rules in
    let r = pieces_read c.args.file.now (λ i. omega (arith, c.type_inv.file i)) c.complete.result e in
    record { exact = e; accepted = r.0; refused = r.1 }
