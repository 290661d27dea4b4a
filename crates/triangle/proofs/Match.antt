-- A `match` on a number that gives the numbers of a list, arm by arm from 0 on, and 0 for any other: it gives the list's entry, whatever the list is.
-- A `match` of so many arms is left to a proof of its own. This one goes by induction over the list, so that no arm has a proof.
use Prim.Native.Nat.{ℕ, zero, suc, ◌+◌, ◌-◌, ◌^◌, ◌≤◌}
use mathlib.Core.Path.{◌≡◌, refl, ap, ◌∙◌}
use mathlib.Core.Bool.{Bool, true, false, ◌&&◌}
use mathlib.Core.List.{List, [], ◌∷◌}
use mathlib.Core.Option.{some, none}
use native.Mathlib.Omega.{arith}
use seplogic.Ra.Ura.{Ura}
use lib.Dec.{T, T¹, ltb, leb, lit<}
use lib.ListN.{get_or}
use mir.Syntax.{w64, ty_int, Ty, Home, value_local, Body, assign, seq, switch, return, place, copy, rv_opd, Arms, arm, default, Fn}
use mir.Val.{has_ty}
use prog.Wp.{Tables, Env, WpFn}
use types.Logic.{Logic}
use contract.Lifetimes.{Lfts}
use denote.Triple.Statement.{Triple}
use denote.Triple.Clauses.{AtExit}
use borrow.Fn.Kinds.{ParamKind, ResultKind, p_num, r_num, In, Out, Dens, ended_of, ty_r}
use borrow.Fn.Enter.{tys_p}
use borrow.Fn.Frame.{EnvOf}
use borrow.Fn.Function.{fn_of, plain_of}
use borrow.Fn.Plain.{t_fn_plain}
use borrow.Table.Row.{Row, Cx, s_int, val_s}
use borrow.Table.Rows.{sc_here, any_gone}
use borrow.Table.Reads.{room_gone}
use borrow.Table.Typed.{Mo, TF, Want, Outs, with_next, want_next, pass, at_next, at_ret, Typed, s_Typed, s_seq, t_seq, g_pre_lem, t_return}
use borrow.Rule.Scalar.{Oper, o_int, o_big, o_at, op_o, val_o, HasO, put_at, n_use, n_room, t_use, g_room, reads_Sc, Holds-Sc, room_Sc}
use borrow.Rule.Switch.{Wants, Φarms, Φswitch, TypedArms, t_switch}

-- Three locals: 0 the result, 1 the number that is matched, 2 what its arm gives.
abbrev full : Row
full = sc_here (s_int w64)

abbrev empty : Row
empty = any_gone (ty_int w64)

abbrev locals : Row → Row → Row → Cx
locals result number given = record { locals = (0, result) ∷ (1, number) ∷ (2, given) ∷ []; slots = [] }

abbrev entry : Cx
entry = locals empty full empty

abbrev matched : Cx
matched = locals empty full full

abbrev answered : Cx
answered = locals full full full

abbrev cleared : Cx
cleared = locals full full empty

abbrev exit : Cx
exit = locals full empty empty

abbrev ends : Outs
ends = record { next = none; exits = []; returns = some exit }

abbrev behind : Outs
behind = with_next (some matched) ends

-- The code. A constant is written in one way up to 1023 and in another above.
abbrev literal : Bool → ℕ → Oper entry.locals
literal true x = o_int w64 x
literal false x = o_big w64 x

abbrev constant : ℕ → Oper entry.locals
constant x = literal (leb x 1023) x

abbrev give : ℕ → Body
give x = assign (place 2 []) (rv_opd (op_o entry.locals (constant x)))

abbrev arms : ℕ → List ℕ → Arms
arms i [] = default (give 0)
arms i (x ∷ xs) = arm (i ∷ []) (give x) (arms (suc i) xs)

abbrev leave : Body
leave = seq (assign (place 0 []) (rv_opd (copy (place 2 [])))) return

abbrev body : List ℕ → Body
body t = seq (switch (copy (place 1 [])) (arms 0 t)) leave

abbrev pub ps : List (ParamKind 0)
ps = p_num w64 ∷ []

abbrev pub r : ResultKind 0
r = r_num w64

abbrev arg_types : List Ty
arg_types = ty_int w64 ∷ []

abbrev homes : List Home
homes = value_local ∷ value_local ∷ value_local ∷ []

abbrev pub matching : List ℕ → Fn
matching t = fn_of 0 ps r arg_types 0 homes (body t)

-- What is wanted behind the `match` is asked of each arm.
abbrev gives : ℕ → TF entry behind
gives x Ψ = pass entry matched (n_use entry (constant x) 2 full (s_int w64).of) (at_next behind Ψ)

abbrev wants : (i : ℕ) (t : List ℕ) → Wants entry behind (arms i t)
wants i [] = gives 0
wants i (x ∷ xs) = (gives x, wants (suc i) xs)

abbrev result : Oper matched.locals
result = o_at 2 (ty_int w64) (val_s (s_int w64))

abbrev leaving : TF matched ends
leaving Ψ =
    pass matched answered (n_use matched result 0 full (s_int w64).of)
    (pass answered cleared (n_room answered 2 (ty_int w64)) (pass cleared exit (n_room cleared 1 (ty_int w64)) (at_ret ends Ψ)))

abbrev whole : List ℕ → TF entry ends
whole t Ψ = Φswitch entry behind 1 (λ x. x) (arms 0 t) (wants 0 t) (want_next matched ends (leaving Ψ) Ψ)

worth : (b : Bool) (x : ℕ) (u : Mo entry) → (s_int w64).of (val_o entry.locals (literal b x) u) ≡ x
worth true x u = refl
worth false x u = refl

-- an arm gives the list's entry at its own number, and behind the last arm the list is over
each_arm : (i : ℕ) (t : List ℕ) (N : Type 0) (x v : ℕ) (Ψ : Want behind) (u : Mo entry) → (N → i ≤ x) → ((k : ℕ) → x ≡ i + k → get_or t k 0 ≡ v) →
    ((y : ℕ) → y ≡ v → Ψ.0 (put_at entry 2 full y u)) → Φarms entry behind (arms i t) (wants i t) N x Ψ u
each_arm i [] N x v Ψ u low same go = λ n. go _ (worth true 0 u ∙ same (x - i) (omega (arith, low n)))
each_arm i (y ∷ ys) N x v Ψ u low same go =
    let others = each_arm (suc i) ys (N × (x ≡ i → ⊥)) x v Ψ u (λ n. omega (arith, low n.0, n.1)) (λ k e. same (suc k) (omega (arith, e))) go in
    (λ e. go _ (worth (leb y 1023) y u ∙ same 0 (omega (arith, e))), others)

-- every number of the list fits 64 bits
abbrev pub fit : List ℕ → Bool
fit [] = true
fit (x ∷ xs) = ltb x (2 ^ 64) && fit xs

both : (a b : Bool) → T (a && b) → T a × T b
both true b h = (tt, h)
both false b h = absurd h

lifted : (b : Bool) → T b → T¹ b
lifted true h = tt
lifted false h = absurd h

module _ {M : Type 1} {𝓤 : Ura M} (𝓛 : Logic 𝓤) (𝓣 : Tables 𝓤 𝓛.H) where
  open 𝓛 use {H}

  module _ (bs : List ℕ) where
    abbrev E : Env 𝓤 H
    E = EnvOf 𝓛 (ty_r r ∷ tys_p ps arg_types) bs

    has : (b : Bool) (x : ℕ) → T (ltb x (2 ^ 64)) → HasO 𝓛 E entry.locals (literal b x)
    has true x h = lifted (ltb x (2 ^ 64)) h
    has false x h = record { lower = record { fits = lit< h } }

    made : (b : Bool) (x : ℕ) (u : Mo entry) → val_s (s_int w64) ((s_int w64).of (val_o entry.locals (literal b x) u)) ≡ val_o entry.locals (literal b x) u
    made true x u = refl
    made false x u = refl

    of-type : (b : Bool) (x : ℕ) (u : Mo entry) → T (has_ty (ty_int w64) (val_o entry.locals (literal b x) u))
    of-type true x u = tt
    of-type false x u = tt

    typed-arm : (x : ℕ) → T (ltb x (2 ^ 64)) → Typed 𝓛 𝓣 E entry (give x) behind (gives x)
    typed-arm x h =
        let small : Bool = leb x 1023 in
        s_Typed 𝓛 𝓣 E entry (give x) behind (pass entry matched (n_use entry (constant x) 2 full (s_int w64).of)) tt
        (t_use 𝓛 E 𝓣 entry (constant x) 2 full (ty_int w64) (val_s (s_int w64)) (s_int w64).of (has small x h) (room_gone 𝓛 (ty_int w64))
        (Holds-Sc 𝓛 (s_int w64)) refl (made small x) (of-type small x))

    typed-arms : (i : ℕ) (t : List ℕ) → T (fit t) → TypedArms 𝓛 𝓣 E entry behind (arms i t) (wants i t)
    typed-arms i [] h = typed-arm 0 tt
    typed-arms i (x ∷ xs) h = (typed-arm x (both (ltb x (2 ^ 64)) (fit xs) h).0, typed-arms (suc i) xs (both (ltb x (2 ^ 64)) (fit xs) h).1)

    typed-leave : Typed 𝓛 𝓣 E matched leave ends leaving
    typed-leave =
        s_seq 𝓛 𝓣 E matched answered (assign (place 0 []) (rv_opd (copy (place 2 [])))) return ends
        (pass matched answered (n_use matched result 0 full (s_int w64).of))
        (λ Ψ. pass answered cleared (n_room answered 2 (ty_int w64)) (pass cleared exit (n_room cleared 1 (ty_int w64)) (at_ret ends Ψ)))
        (t_use 𝓛 E 𝓣 matched result 0 full (ty_int w64) (val_s (s_int w64)) (s_int w64).of (reads_Sc 𝓛 (s_int w64), refl)
        (room_gone 𝓛 (ty_int w64)) (Holds-Sc 𝓛 (s_int w64)) refl (λ u. refl) (λ u. tt))
        (g_pre_lem 𝓛 𝓣 E answered cleared return ends (pass answered cleared (n_room answered 2 (ty_int w64)))
        (λ Ψ. pass cleared exit (n_room cleared 1 (ty_int w64)) (at_ret ends Ψ)) (g_room 𝓛 E answered 2 (ty_int w64) (room_Sc 𝓛 (s_int w64)))
        (g_pre_lem 𝓛 𝓣 E cleared exit return ends (pass cleared exit (n_room cleared 1 (ty_int w64))) (at_ret ends)
        (g_room 𝓛 E cleared 1 (ty_int w64) (room_Sc 𝓛 (s_int w64))) (t_return 𝓛 𝓣 E ends tt)))

    typed-body : (t : List ℕ) → T (fit t) → Typed 𝓛 𝓣 E entry (body t) ends (whole t)
    typed-body t h =
        t_seq 𝓛 𝓣 E entry matched (switch (copy (place 1 [])) (arms 0 t)) leave ends
        (Φswitch entry behind 1 (λ x. x) (arms 0 t) (wants 0 t)) leaving
        (t_switch 𝓛 E 𝓣 entry 1 w64 (λ x. x) (arms 0 t) behind (wants 0 t) (reads_Sc 𝓛 (s_int w64)) refl (typed-arms 0 t h)) typed-leave

  -- the function gives the list's entry, 0 behind its end
  pub gives-entry : (t : List ℕ) → T (fit t) → (Pre : In 0 ps) (Post : Out 0 ps r) →
      ((κs : Lfts 0) (a : Dens κs ps) (e : AtExit (ended_of 0 ps r) κs) (y : ℕ) → y ≡ get_or t a.0 0 → Post κs a y e) →
      Triple 𝓤 (WpFn 𝓤 H 𝓣.C 𝓣.Λ (matching t)) (plain_of 𝓛 0 ps r Pre Post)
  gives-entry t h Pre Post shows =
      t_fn_plain 𝓛 𝓣 0 ps r arg_types 0 homes (body t) (λ κs qs bs. whole t) (λ κs qs bs bd. typed-body bs t h) Pre Post
      (λ κs qs a good pre bs.
      each_arm 0 t (Unit {0}) a.0 (get_or t a.0 0) _ _ (λ n. omega arith)
      (λ k e. let same : k ≡ a.0 = omega (arith, e) in ap (λ (j : ℕ). get_or t j 0) same) (λ y e. ((tt, tt), shows κs a _ y e)))
