-- The promises of the calls for C leave no choice: two answers that one of them allows are equal, and so is what they leave in lent memory. Those of
-- `gorvlime_layout`, `gorvlime_resume` and `gorvlime_write_many` are `unique-fields` of layout/proofs/Unique, `unique-resume-fields` of
-- resuming/proofs/Unique and `unique-write-many` of many/proofs/Unique; those of the calls by their Rattle names stand there, in walking/proofs/Unique, dump/proofs/Unique, reading/proofs/Unique, writing/proofs/Unique, judging/proofs/Unique,
-- pairing/proofs/Unique, moves/proofs/Unique and hextext/proofs/Unique, and of `part` in gorvlime/proofs/Unique.
use Prim.Native.Nat.{ℕ}
use mathlib.Core.Path.{◌≡◌, sym, ap, ◌∙◌}
use mathlib.Core.List.{List}
use lib.ListN.{get_or, take, drop}
use Rattle.code.specs.declared.Shape.{Shape}
use Rattle.code.specs.Calls.{filled, read_fields, write_fields, read_reply, write_reply, write_leaves}
use Rattle.code.specs.JudgeCall.{judge_reply, judge_fields}
use Rattle.code.specs.declared.Pair.{Pair}
use Rattle.code.specs.Pair.{pair_read_reply, pair_read_fields, pair_write_reply, pair_first_leaves, pair_second_leaves, pair_write_fields}
use Rattle.code.specs.declared.Kind.TheVariants.{Old, New}
use Rattle.code.specs.Export.{old_export, new_export, export_reply, export_leaves}
use Rattle.code.specs.Dump.{open_reply, step_reply, walk_reply, walk_leaves}
use Rattle.dump.specs.declared.listed.ListedShape.{ListedShape}
use Rattle.dump.specs.Listed.{listed_numbers_of}
use Rattle.walking.specs.declared.WalkFields.{WalkFields}
use Rattle.walking.specs.Answers.{walk_fields_of}
use Rattle.code.specs.NewDump.{listed_reply, listed_fields, layout_export_reply, layout_export_leaves, to_new_reply, to_new_leaves, to_old_reply, to_old_leaves}
use Rattle.code.specs.Hex.{hex_export_reply, hex_export_leaves, hex_import_reply, hex_import_leaves}
use Rattle.gorvlime_c.specs.Fields.{made_fields, open_fields, moved_fields, offset_fields, step_fields, new_step_fields, new_found_fields, found_fields}
use Rattle.reading.specs.declared.ReadFields.{ReadFields}
use Rattle.reading.specs.Answers.{read_fields_of}
use Rattle.judging.specs.declared.JudgeFields.{JudgeFields}
use Rattle.judging.specs.Answers.{judge_fields_of}
use Rattle.pairing.specs.declared.PairReadFields.{PairReadFields}
use Rattle.pairing.specs.declared.PairWriteFields.{PairWriteFields}
use Rattle.pairing.specs.Answers.{pair_read_fields_of, pair_write_fields_of}
use Rattle.writing.specs.declared.WriteFields.{WriteFields}
use Rattle.writing.specs.Answers.{write_fields_of}
use Rattle.gorvlime_c.specs.declared.MadeAnswer.{MadeAnswer}
use Rattle.gorvlime_c.specs.declared.OpenAnswer.{OpenAnswer}
use Rattle.gorvlime_c.specs.declared.MovedAnswer.{MovedAnswer}
use Rattle.gorvlime_c.specs.declared.StepAnswer.{StepAnswer}
use Rattle.gorvlime_c.specs.declared.NewStepAnswer.{NewStepAnswer}

-- the struct whose fields are given: an answer is the struct of its own fields
abbrev reading_with : List ℕ → ReadFields
reading_with xs = record { refusal = get_or xs 0 0; generation = get_or xs 1 0; number = get_or xs 2 0; left = get_or xs 3 0; unerased = get_or xs 4 0 }

abbrev judging_with : List ℕ → JudgeFields
judging_with xs = record { refusal = get_or xs 0 0; yes = get_or xs 1 0; number = get_or xs 2 0; generation = get_or xs 3 0; unerased = get_or xs 4 0 }

abbrev pair_reading_with : List ℕ → PairReadFields
pair_reading_with xs = record { refusal = get_or xs 0 0; number = get_or xs 1 0; left = get_or xs 2 0; generation = get_or xs 3 0; unerased = get_or xs 4 0 }

abbrev pair_writing_with : List ℕ → PairWriteFields
pair_writing_with xs = record { refusal = get_or xs 0 0; field = get_or xs 1 0; generation = get_or xs 2 0; turned = get_or xs 3 0; unerased = get_or xs 4 0 }

abbrev writing_with : List ℕ → WriteFields
writing_with xs = record { refusal = get_or xs 0 0; generation = get_or xs 1 0; turned = get_or xs 2 0; unerased = get_or xs 3 0 }

abbrev walk_with : List ℕ → WalkFields
walk_with xs = record { refusal = get_or xs 0 0; offset = get_or xs 1 0; rows = get_or xs 2 0; next = get_or xs 3 0; ended = get_or xs 4 0 }

abbrev listed_with : List ℕ → ListedShape
listed_with xs =
    record {
      refusal = get_or xs 0 0;
      shape = record { form = get_or xs 1 0; m = get_or xs 2 0; t = get_or xs 3 0; count = get_or xs 4 0; v = drop 5 xs };
    }

abbrev made_with : List ℕ → MadeAnswer
made_with xs = record { refusal = get_or xs 0 0; length = get_or xs 1 0 }

abbrev open_with : List ℕ → OpenAnswer
open_with xs = record { refusal = get_or xs 0 0; offset = get_or xs 1 0; layouts = get_or xs 2 0; first = get_or xs 3 0 }

abbrev moved_with : List ℕ → MovedAnswer
moved_with xs = record { refusal = get_or xs 0 0; offset = get_or xs 1 0; length = get_or xs 2 0 }

abbrev step_with : List ℕ → StepAnswer
step_with xs =
    record {
      refusal = get_or xs 0 0;
      offset = get_or xs 1 0;
      records = get_or xs 2 0;
      serial = get_or xs 3 0;
      m = get_or xs 4 0;
      t = get_or xs 5 0;
      v = get_or xs 6 0;
      start = get_or xs 7 0;
      length = get_or xs 8 0;
      next = get_or xs 9 0;
      refused = get_or xs 10 0;
      generation = get_or xs 11 0;
      number = get_or xs 12 0;
      left = get_or xs 13 0;
      unerased = get_or xs 14 0;
    }

abbrev new_step_with : List ℕ → NewStepAnswer
new_step_with xs =
    record {
      refusal = get_or xs 0 0;
      offset = get_or xs 1 0;
      records = get_or xs 2 0;
      serial = get_or xs 3 0;
      layout = get_or xs 4 0;
      brief = record { form = get_or xs 5 0; m = get_or xs 6 0; t = get_or xs 7 0; v = get_or xs 8 0 };
      start = get_or xs 9 0;
      length = get_or xs 10 0;
      next = get_or xs 11 0;
      refused = get_or xs 12 0;
      generation = get_or xs 13 0;
      number = get_or xs 14 0;
      left = get_or xs 15 0;
      unerased = get_or xs 16 0;
    }

pub unique-walk-fields : (bytes : List ℕ) (at : ℕ) (rows after after' : List ℕ) (r r' : WalkFields) →
    walk_fields_of r ≡ walk_reply Old bytes at rows → after ≡ walk_leaves Old bytes at rows →
    walk_fields_of r' ≡ walk_reply Old bytes at rows → after' ≡ walk_leaves Old bytes at rows → (r ≡ r') × (after ≡ after')
unique-walk-fields bytes at rows after after' r r' p l p' l' = (ap walk_with (p ∙ sym p'), l ∙ sym l')

pub unique-walk-new-fields : (bytes : List ℕ) (at : ℕ) (rows after after' : List ℕ) (r r' : WalkFields) →
    walk_fields_of r ≡ walk_reply New bytes at rows → after ≡ walk_leaves New bytes at rows →
    walk_fields_of r' ≡ walk_reply New bytes at rows → after' ≡ walk_leaves New bytes at rows → (r ≡ r') × (after ≡ after')
unique-walk-new-fields bytes at rows after after' r r' p l p' l' = (ap walk_with (p ∙ sym p'), l ∙ sym l')

pub unique-listed-fields : (bytes : List ℕ) (number : ℕ) (r r' : ListedShape) → listed_numbers_of r ≡ filled listed_fields (listed_reply bytes number) →
    listed_numbers_of r' ≡ filled listed_fields (listed_reply bytes number) → r ≡ r'
unique-listed-fields bytes number r r' p p' = ap listed_with (p ∙ sym p')

pub unique-read : (s : Shape) (cells : List ℕ) (r r' : ReadFields) →
    read_fields_of r ≡ read_fields (read_reply s cells) → read_fields_of r' ≡ read_fields (read_reply s cells) → r ≡ r'
unique-read s cells r r' p p' = ap reading_with (p ∙ sym p')

pub unique-judge : (s : Shape) (before after : List ℕ) (r r' : JudgeFields) →
    judge_fields_of r ≡ judge_fields (judge_reply s before after) → judge_fields_of r' ≡ judge_fields (judge_reply s before after) → r ≡ r'
unique-judge s before after r r' p p' = ap judging_with (p ∙ sym p')

pub unique-read-pair : (p : Pair) (first second : List ℕ) (r r' : PairReadFields) →
    pair_read_fields_of r ≡ pair_read_fields (pair_read_reply p first second) → pair_read_fields_of r' ≡ pair_read_fields (pair_read_reply p first second) → r ≡ r'
unique-read-pair p first second r r' q q' = ap pair_reading_with (q ∙ sym q')

pub unique-write-pair : (p : Pair) (x : ℕ) (first second one one' two two' : List ℕ) (r r' : PairWriteFields) →
    pair_write_fields_of r ≡ pair_write_fields (pair_write_reply p x first second) → one ≡ pair_first_leaves p x first second → two ≡ pair_second_leaves p x first second →
    pair_write_fields_of r' ≡ pair_write_fields (pair_write_reply p x first second) → one' ≡ pair_first_leaves p x first second → two' ≡ pair_second_leaves p x first second →
    (r ≡ r') × (one ≡ one') × (two ≡ two')
unique-write-pair p x first second one one' two two' r r' q a b q' a' b' = (ap pair_writing_with (q ∙ sym q'), a ∙ sym a', b ∙ sym b')

pub unique-write : (s : Shape) (x : ℕ) (cells after after' : List ℕ) (r r' : WriteFields) →
    write_fields_of r ≡ write_fields (write_reply s x cells) → after ≡ write_leaves s x cells →
    write_fields_of r' ≡ write_fields (write_reply s x cells) → after' ≡ write_leaves s x cells → (r ≡ r') × (after ≡ after')
unique-write s x cells after after' r r' p l p' l' = (ap writing_with (p ∙ sym p'), l ∙ sym l')

made_alike : (reply leaves after after' : List ℕ) (r r' : MadeAnswer) → made_fields r ≡ reply → after ≡ leaves → made_fields r' ≡ reply → after' ≡ leaves →
    (r ≡ r') × (after ≡ after')
made_alike reply leaves after after' r r' p l p' l' = (ap made_with (p ∙ sym p'), l ∙ sym l')

pub unique-export : (serial m t v : ℕ) (cells out after after' : List ℕ) (r r' : MadeAnswer) →
    made_fields r ≡ filled 2 (export_reply (old_export serial m t v) cells out) → after ≡ export_leaves (old_export serial m t v) cells out →
    made_fields r' ≡ filled 2 (export_reply (old_export serial m t v) cells out) → after' ≡ export_leaves (old_export serial m t v) cells out →
    (r ≡ r') × (after ≡ after')
unique-export serial m t v cells out =
    made_alike (filled 2 (export_reply (old_export serial m t v) cells out)) (export_leaves (old_export serial m t v) cells out)

pub unique-export-record : (serial number : ℕ) (shape : Shape) (cells out after after' : List ℕ) (r r' : MadeAnswer) →
    made_fields r ≡ filled 2 (export_reply (new_export serial number shape) cells out) → after ≡ export_leaves (new_export serial number shape) cells out →
    made_fields r' ≡ filled 2 (export_reply (new_export serial number shape) cells out) → after' ≡ export_leaves (new_export serial number shape) cells out →
    (r ≡ r') × (after ≡ after')
unique-export-record serial number shape cells out =
    made_alike (filled 2 (export_reply (new_export serial number shape) cells out)) (export_leaves (new_export serial number shape) cells out)

pub unique-layout-export : (s : Shape) (out after after' : List ℕ) (r r' : MadeAnswer) →
    made_fields r ≡ filled 2 (layout_export_reply s out) → after ≡ layout_export_leaves s out →
    made_fields r' ≡ filled 2 (layout_export_reply s out) → after' ≡ layout_export_leaves s out → (r ≡ r') × (after ≡ after')
unique-layout-export s out = made_alike (filled 2 (layout_export_reply s out)) (layout_export_leaves s out)

pub unique-hex-export : (bytes out after after' : List ℕ) (r r' : MadeAnswer) →
    made_fields r ≡ filled 2 (hex_export_reply bytes out) → after ≡ hex_export_leaves bytes out →
    made_fields r' ≡ filled 2 (hex_export_reply bytes out) → after' ≡ hex_export_leaves bytes out → (r ≡ r') × (after ≡ after')
unique-hex-export bytes out = made_alike (filled 2 (hex_export_reply bytes out)) (hex_export_leaves bytes out)

pub unique-hex-import : (text out after after' : List ℕ) (r r' : MadeAnswer) →
    made_fields r ≡ filled 2 (hex_import_reply text out) → after ≡ hex_import_leaves text out →
    made_fields r' ≡ filled 2 (hex_import_reply text out) → after' ≡ hex_import_leaves text out → (r ≡ r') × (after ≡ after')
unique-hex-import text out = made_alike (filled 2 (hex_import_reply text out)) (hex_import_leaves text out)

pub unique-step : (bytes : List ℕ) (at : ℕ) (r r' : StepAnswer) →
    step_fields r ≡ found_fields (step_reply Old bytes at) → step_fields r' ≡ found_fields (step_reply Old bytes at) → r ≡ r'
unique-step bytes at r r' p p' = ap step_with (p ∙ sym p')

pub unique-step-new : (bytes : List ℕ) (at : ℕ) (r r' : NewStepAnswer) →
    new_step_fields r ≡ new_found_fields (step_reply New bytes at) → new_step_fields r' ≡ new_found_fields (step_reply New bytes at) → r ≡ r'
unique-step-new bytes at r r' p p' = ap new_step_with (p ∙ sym p')

pub unique-open-new : (bytes : List ℕ) (r r' : OpenAnswer) →
    open_fields r ≡ offset_fields 4 (open_reply New bytes) → open_fields r' ≡ offset_fields 4 (open_reply New bytes) → r ≡ r'
unique-open-new bytes r r' p p' = ap open_with (p ∙ sym p')

moved-alike : (reply leaves after after' : List ℕ) (r r' : MovedAnswer) → moved_fields r ≡ reply → after ≡ leaves → moved_fields r' ≡ reply → after' ≡ leaves →
    (r ≡ r') × (after ≡ after')
moved-alike reply leaves after after' r r' p l p' l' = (ap moved_with (p ∙ sym p'), l ∙ sym l')

pub unique-move-to-new : (bytes out after after' : List ℕ) (r r' : MovedAnswer) →
    moved_fields r ≡ offset_fields 3 (to_new_reply bytes out) → after ≡ to_new_leaves bytes out →
    moved_fields r' ≡ offset_fields 3 (to_new_reply bytes out) → after' ≡ to_new_leaves bytes out → (r ≡ r') × (after ≡ after')
unique-move-to-new bytes out = moved-alike (offset_fields 3 (to_new_reply bytes out)) (to_new_leaves bytes out)

pub unique-move-to-old : (bytes out after after' : List ℕ) (r r' : MovedAnswer) →
    moved_fields r ≡ offset_fields 3 (to_old_reply bytes out) → after ≡ to_old_leaves bytes out →
    moved_fields r' ≡ offset_fields 3 (to_old_reply bytes out) → after' ≡ to_old_leaves bytes out → (r ≡ r') × (after ≡ after')
unique-move-to-old bytes out = moved-alike (offset_fields 3 (to_old_reply bytes out)) (to_old_leaves bytes out)
