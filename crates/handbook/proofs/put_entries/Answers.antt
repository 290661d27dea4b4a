use Rattle.std.proofs.Common.{◌≡◌, ℕ, suc, ◌*◌, List, [], ◌∷◌, add-one, arith}
use Rattle.code.specs.Count.{choose}
use Rattle.code.specs.Listing.{decimal}
use Rattle.storing.specs.Put.{Put}
use Rattle.storing.proofs.Put.{put-none}
use Rattle.text.specs.Within.{PutWithin}
use Rattle.text.proofs.Laws.{exactly, within-then, wider}
use Rattle.handbook.specs.Rows.{entries_text}
use Rattle.handbook.proofs.put_entries.Goals as goal

-- a number more, behind its space
one_more : (n k : ℕ) {b c s d : List ℕ} {at place digits x next : ℕ} → PutWithin (21 * k) b c at (entries_text n k) place → Put c s place (32 ∷ []) digits →
    PutWithin 20 s d digits (decimal x) next → x ≡ choose n k → PutWithin (21 * suc k) b d at (entries_text n (suc k)) next
unfolding entries_text
one_more n k p space number e = wider (omega arith) (within-then p (within-then (exactly space) (rw e at number)))

pub loop-k-init : goal.loop-k-init
unfolding entries_text
loop-k-init c = record { put = put-none _ _; few = omega arith }

pub loop-k-preserved : goal.loop-k-preserved
loop-k-preserved c =
    rw (add-one c.loop-k.k) (one_more c.args.n c.loop-k.k c.loop-k.invariant c.put_byte-digits.ensures c.put_decimal-place.ensures c.stored.ensures)

-- the last number of the row
pub returns-2 : goal.returns-2
returns-2 c =
    let k : c.loop-k.k ≡ c.args.n = omega arith in
    let all = one_more c.args.n c.loop-k.k c.loop-k.invariant c.put_byte-digits.ensures c.put_decimal-place.ensures c.stored.ensures in
    wider (omega arith) (rw k at all)
