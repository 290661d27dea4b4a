-- The refusal of a pair in the five fields of an answer.
use mathlib.Core.Path.{◌≡◌}
use mathlib.Core.List.{[], ◌∷◌}
use Rattle.code.specs.declared.Refusal.{Refusal}
use Rattle.code.specs.declared.RefusalFields.{RefusalFields}
use Rattle.code.specs.Calls.{filled}
use Rattle.code.specs.Pair.{pair_read_fields, pair_write_fields}
use Rattle.code.specs.Refusals.{refusal_reply}
use Rattle.code.proofs.Refused.{refusal_fields_of, fields-told, numbered}

module _ (k : Refusal) (c : RefusalFields) (told : refusal_fields_of c ≡ filled 3 (refusal_reply k)) where
  pub read-fields-refused : c.number ∷ 0 ∷ 0 ∷ c.first ∷ c.second ∷ [] ≡ pair_read_fields (refusal_reply k)
  unfolding pair_read_fields
  read-fields-refused = let t = fields-told k c told in rw (t.0, t.1, t.2, numbered k c told)

  pub write-fields-refused : c.number ∷ 0 ∷ c.first ∷ 0 ∷ c.second ∷ [] ≡ pair_write_fields (refusal_reply k)
  unfolding pair_write_fields
  write-fields-refused = let t = fields-told k c told in rw (t.0, t.1, t.2, numbered k c told)
