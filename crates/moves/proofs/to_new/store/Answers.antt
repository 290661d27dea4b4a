use Rattle.std.proofs.Common.{◌≡◌, ◌+◌, ◌*◌, ap, [], ◌∷◌, length, take, length-take, length-append, arith}
use Rattle.std.proofs.lemmas.Result.{err_from_is_err_and}
use Rattle.code.specs.declared.Kind.TheVariants.{Old}
use Rattle.code.specs.Numerals.{numerals_of}
use Rattle.code.specs.NewDump.{to_new}
use Rattle.code.proofs.Records.{numerals-few}
use Rattle.code.proofs.Walk.{entered-short}
use Rattle.storing.specs.Put.{Put}
use Rattle.storing.proofs.Put.{put_then, put-length}
use Rattle.moves.specs.Kept.{kept_layouts}
use Rattle.moves.specs.Passes.{refused_by, numbered_by}
use Rattle.moves.proofs.ToNew.{new-own, new-refused, new-room, new-stored, too_many, not-many, new-made, new-long, new-small}
use Rattle.moves.proofs.to_new.store.Goals as goal

pub returns-then-layouts-gt-LAYOUTS_MOST-clause-result_value : goal.returns-then-layouts-gt-LAYOUTS_MOST-clause-result_value
returns-then-layouts-gt-LAYOUTS_MOST-clause-result_value c =
    let m = new-own c.args.dump.now c.args.out.now c.requires.1.whole (too_many _ _ c.requires.1 c.if-layouts-gt-LAYOUTS_MOST.true) in
    m.0

pub returns-then-layouts-gt-LAYOUTS_MOST-clause-out_after : goal.returns-then-layouts-gt-LAYOUTS_MOST-clause-out_after
returns-then-layouts-gt-LAYOUTS_MOST-clause-out_after c =
    let m = new-own c.args.dump.now c.args.out.now c.requires.1.whole (too_many _ _ c.requires.1 c.if-layouts-gt-LAYOUTS_MOST.true) in
    m.1

pub numbers_length-requires : goal.numbers_length-requires
numbers_length-requires c =
    (new-small _ _ c.requires.1 c.if-layouts-gt-LAYOUTS_MOST.false (λ i h. omega (arith, c.type_inv.dump i)), omega (arith, length-take (4 * c.args.layouts) c.args.kept.now))

pub overflow_add-long : goal.overflow_add-long
overflow_add-long c =
    let front = take (4 * c.args.layouts) c.args.kept.now in
    omega (
      arith,
      c.numbers_length.ensures,
      numerals-few front,
      length-take (4 * c.args.layouts) c.args.kept.now,
      c.requires.1.keeps.long,
      c.requires.1.few,
      entered-short Old _ _ _ c.requires.0,
    )

pub overflow_add-long-2 : goal.overflow_add-long-2
overflow_add-long-2 c =
    let front = take (4 * c.args.layouts) c.args.kept.now in
    omega (
      arith,
      c.numbers_length.ensures,
      numerals-few front,
      length-take (4 * c.args.layouts) c.args.kept.now,
      c.requires.1.keeps.long,
      c.requires.1.few,
      entered-short Old _ _ _ c.requires.0,
    )

pub returns-in_err-test_length-clause-result_value : goal.returns-in_err-test_length-clause-result_value
returns-in_err-test_length-clause-result_value c =
    let k = c.requires.1 in
    let few = c.if-layouts-gt-LAYOUTS_MOST.false in
    let passes = not-many _ _ k few in
    let long : 1 + c.numbers_length.result + c.args.total ≡ length (to_new c.args.dump.now) = omega (arith, c.numbers_length.ensures, new-long _ _ k few) in
    let p = err_from_is_err_and c.from_residual.result c.from_residual.ensures.1 in
    let m = new-refused c.args.dump.now c.args.out.now k.whole passes _ _ long c.test_length.ensures _ c.in_err-test_length.was in
    rw (p.1, p.2) m.0

pub returns-in_err-test_length-clause-out_after : goal.returns-in_err-test_length-clause-out_after
returns-in_err-test_length-clause-out_after c =
    let k = c.requires.1 in
    let few = c.if-layouts-gt-LAYOUTS_MOST.false in
    let passes = not-many _ _ k few in
    let long : 1 + c.numbers_length.result + c.args.total ≡ length (to_new c.args.dump.now) = omega (arith, c.numbers_length.ensures, new-long _ _ k few) in
    let m = new-refused c.args.dump.now c.args.out.now k.whole passes _ _ long c.test_length.ensures _ c.in_err-test_length.was in
    m.1

pub put_list-first-requires-clause-below : goal.put_list-first-requires-clause-below
put_list-first-requires-clause-below c =
    let k = c.requires.1 in
    let few = c.if-layouts-gt-LAYOUTS_MOST.false in
    let passes = not-many _ _ k few in
    let long : 1 + c.numbers_length.result + c.args.total ≡ length (to_new c.args.dump.now) = omega (arith, c.numbers_length.ensures, new-long _ _ k few) in
    let none : refused_by c.test_length.result ≡ [] = ap refused_by c.in_ok-test_length.was in
    let room = new-room c.args.dump.now c.args.out.now k.whole passes _ _ long c.test_length.ensures none in
    (new-small _ _ c.requires.1 c.if-layouts-gt-LAYOUTS_MOST.false (λ i h. omega (arith, c.type_inv.dump i)), omega (arith, room, long, c.numbers_length.ensures))

pub put_records-requires : goal.put_records-requires
put_records-requires c =
    let k = c.requires.1 in
    let few = c.if-layouts-gt-LAYOUTS_MOST.false in
    let passes = not-many _ _ k few in
    let long : 1 + c.numbers_length.result + c.args.total ≡ length (to_new c.args.dump.now) = omega (arith, c.numbers_length.ensures, new-long _ _ k few) in
    let none : refused_by c.test_length.result ≡ [] = ap refused_by c.in_ok-test_length.was in
    let room = new-room c.args.dump.now c.args.out.now k.whole passes _ _ long c.test_length.ensures none in
    let first = c.put_list-first.ensures in
    let all = ap length (new-made _ _ k few) in
    let parts =
    length-append (c.args.layouts ∷ numerals_of (take (4 * c.args.layouts) c.args.kept.now))
    (numbered_by (kept_layouts c.args.layouts c.args.kept.now) c.args.dump.now) in
    (c.requires.0, few, k.keeps.long, omega (arith, room, all, parts, first.ends, put-length first))

pub returns-clause-result_value : goal.returns-clause-result_value
returns-clause-result_value c =
    let k = c.requires.1 in
    let few = c.if-layouts-gt-LAYOUTS_MOST.false in
    let passes = not-many _ _ k few in
    let long : 1 + c.numbers_length.result + c.args.total ≡ length (to_new c.args.dump.now) = omega (arith, c.numbers_length.ensures, new-long _ _ k few) in
    let none : refused_by c.test_length.result ≡ [] = ap refused_by c.in_ok-test_length.was in
    let room = new-room c.args.dump.now c.args.out.now k.whole passes _ _ long c.test_length.ensures none in
    let first = c.put_list-first.ensures in
    let all = ap length (new-made _ _ k few) in
    let parts =
    length-append (c.args.layouts ∷ numerals_of (take (4 * c.args.layouts) c.args.kept.now))
    (numbered_by (kept_layouts c.args.layouts c.args.kept.now) c.args.dump.now) in
    let rest = c.put_records.ensures k.whole (omega (arith, room, all, parts, first.ends, put-length first)) in
    let both = put_then first rest in
    let stored : Put c.args.out.now c.put_records.new.out 0 (to_new c.args.dump.now) c.put_records.result = rw (new-made _ _ k few) both in
    let m = new-stored c.args.dump.now c.args.out.now k.whole passes _ _ long c.test_length.ensures none stored in
    m.0

pub returns-clause-out_after : goal.returns-clause-out_after
returns-clause-out_after c =
    let k = c.requires.1 in
    let few = c.if-layouts-gt-LAYOUTS_MOST.false in
    let passes = not-many _ _ k few in
    let long : 1 + c.numbers_length.result + c.args.total ≡ length (to_new c.args.dump.now) = omega (arith, c.numbers_length.ensures, new-long _ _ k few) in
    let none : refused_by c.test_length.result ≡ [] = ap refused_by c.in_ok-test_length.was in
    let room = new-room c.args.dump.now c.args.out.now k.whole passes _ _ long c.test_length.ensures none in
    let first = c.put_list-first.ensures in
    let all = ap length (new-made _ _ k few) in
    let parts =
    length-append (c.args.layouts ∷ numerals_of (take (4 * c.args.layouts) c.args.kept.now))
    (numbered_by (kept_layouts c.args.layouts c.args.kept.now) c.args.dump.now) in
    let rest = c.put_records.ensures k.whole (omega (arith, room, all, parts, first.ends, put-length first)) in
    let both = put_then first rest in
    let stored : Put c.args.out.now c.put_records.new.out 0 (to_new c.args.dump.now) c.put_records.result = rw (new-made _ _ k few) both in
    let m = new-stored c.args.dump.now c.args.out.now k.whole passes _ _ long c.test_length.ensures none stored in
    m.1
