use Rattle.std.proofs.Common.{◌≡◌, ◌*◌, drop}
use Rattle.std.specs.Slice.Iter.{chunks_rest, chunks_size}
use Rattle.hextext.proofs.Outward.{Lining}
use Rattle.hextext.proofs.export.put_lines.Given as goal

abbrev pub invariant-loop-n : goal.invariant-loop-n
invariant-loop-n l =
    let i = 16 * l.n-iterator.count in
    (chunks_size l.n-iterator.iter ≡ 16) × (chunks_rest l.n-iterator.iter ≡ drop i l.bytes) × Lining l.initial.out l.bytes l.out l.at i
