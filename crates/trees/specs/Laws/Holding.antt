-- Calls in a walk that holds the same before and after each call: tokens of lifetimes, and what parameters own
-- that can be copied. A callee gets its part, and with what it hands back all is held again. So what is known
-- of a call is one line, that it gives the machine value of some x, and the walk goes on with that value.
use Rattle.std.specs.Prelude.{◌≡◌, Bool, true, false, List, [], ◌∷◌, ℕ}
use Rattle.std.proofs.Common.{subst}
use Rattle.std.specs.Float.Ieee.Bits.{is_true, is_false}
use seplogic.Ra.Ura.{Ura}
use mir.Syntax.{Callee, Place, place, Opd as Operand, copy, Body, seq, call, cond, skip, exit}
use mir.Val.{Val, vbool}
use base.Logic.{SProp, ent, sep, guard, emp, id⊢, via, mono_l, snd∗, ex_e}
use base.Fml.{Share, fat}
use prog.Wp.{Heap, Env, Calls, Loops, exits, spot_of}
use types.Logic.{Logic, sem}
use contract.Monad.{fact}
use contract.Lifetimes.{Lfts, Shares, AllOutlive}
use types.Kit.{Item, ‵, raw, ◌⊛◌, some, given, later, nth, Post, prop, runs, lands, settles, post, Seq}
use types.Kit.{◌$◌, ◌∵◌, !, qed, by, move, use1, split, pick, learn, check, frame, await, updating}
use types.Kit.{now as at_once}
use types.Run.{Opd, Opds, load, from, stop, look, first, branches, skips, jumps}
use sound.WpLaws.{FmC}
use denote.RattleType.{RattleType, flat}
use denote.Laws.{Is, shows}
use denote.Signature.{type_at, types_at}
use denote.Steps.{facts, heard}
use denote.Triple.Call.{calls_from, calls_from_last}
use denote.Triple.Clauses.{Clauses, Ended, AtExit, at_exit, lasts, ensured, closing}
use denote.Triple.Entry.{Args, Vals, alive, on_entry}
use denote.Triple.Spec.{triple_of, Meets}

-- once a call has returned v: v is the machine value of x, and what was held is held
abbrev pub Gives : {M : Type 1} (𝓤 : Ura M) (H : Heap 𝓤) → SProp 𝓤 → (R : RattleType) → R.Denot → Val
    → SProp 𝓤
Gives 𝓤 H Held R x v = H.⇛ (guard 𝓤 (Is R x (v ∷ [])) Held)

-- A call of a function that meets a contract by which its result is x, at the lifetimes κs, the arguments a and
-- their machine values vss: what is held gives what the callee asks beside a rest, and the tokens that come
-- back and that rest give what was held.
module _ {M : Type 1} {𝓤 : Ura M} (𝓛 : Logic 𝓤) (C : Calls 𝓤 𝓛.H)
    (fm : FmC 𝓤 𝓛.H 𝓛.laws C) (Held : SProp 𝓤) (T : Ended) (c : Clauses 𝓤 T)
    (κs : Lfts T.signature.lifetimes) (qs : Shares T.signature.lifetimes)
    (bounds : AllOutlive T.signature.lifetimes T.signature.outlives κs) (a : Args T.signature κs)
    (vss : Vals T.signature κs) (g : (c κs a).ghost) where
  open 𝓛 use {H}

  abbrev R : RattleType
  R = type_at T.signature.result κs

  abbrev Alive : SProp 𝓤
  Alive = alive 𝓛 T.signature κs qs

  abbrev Asked : SProp 𝓤
  Asked = on_entry 𝓛 T.signature κs qs a vss

  abbrev Back : Val → SProp 𝓤
  Back = (triple_of 𝓛 T.signature (closing 𝓛 T c)).post ((κs, qs, bounds, a, vss), g)

  abbrev vs : List Val
  vs = flat (types_at T.signature.params κs) vss

  pub gives : (f : Callee) → Meets 𝓛 T.signature (C f) (closing 𝓛 T c)
      → ent 𝓤 (emp 𝓤) ((c κs a).requires g) → (x : R.Denot)
      → ((r : R.Denot) (e : AtExit T κs) → ent 𝓤 ((c κs a).ensures g r e) (fact 𝓤 (r ≡ x)))
      → (Rest : SProp 𝓤) → ent 𝓤 Held (sep 𝓤 Asked Rest) → ent 𝓤 (sep 𝓤 Alive Rest) Held
      → ent 𝓤 Held (C f vs (Gives 𝓤 H Held R x))
  gives f met need x says Rest apart back =
      via 𝓤 (sep 𝓤 (C f vs Back) Rest)
      (via 𝓤 (sep 𝓤 Asked Rest) apart (mono_l 𝓤 Rest (via 𝓤 (sep 𝓤 Asked ((c κs a).requires g)) asked
      (met ((κs, qs, bounds, a, vss), g)))))
      (fm f vs Back (Gives 𝓤 H Held R x) Rest returned)
    where
      asked : ent 𝓤 Asked (sep 𝓤 Asked ((c κs a).requires g))
      asked = qed 𝓛 (raw Asked ∷ []) ∵ frame ! $ by ! need

      -- the clause alone: nothing is lent by `&mut`, so what is said of last values is dropped
      said : (r : R.Denot) → ent 𝓤 (ensured 𝓛 T c κs a g r) (fact 𝓤 (r ≡ x))
      said r = ex_e 𝓤 _ (λ ws. via 𝓤 ((c κs a).ensures g r (at_exit T κs a ws))
          (snd∗ 𝓤 (sem 𝓛 (lasts T κs a ws)) ((c κs a).ensures g r (at_exit T κs a ws)))
          (says r (at_exit T κs a ws)))

      returned : (v : Val) → ent 𝓤 (sep 𝓤 (Back v) Rest) (Gives 𝓤 H Held R x v)
      returned v =
          qed 𝓛 (later (some (λ (r : R.Denot). (raw Alive ⊛ ‵ (R.own_val r (v ∷ [])))
          ⊛ raw (ensured 𝓛 T c κs a g r))) ∷ raw Rest ∷ []) ∵
          updating ! $ await ! tt $ pick ! (λ r. split ! $ move ! (1 ∷ []) $
          use1 𝓛 (raw (fact 𝓤 (r ≡ x))) (said r) $ heard ! (r ≡ x) (λ e. split ! $ move ! (1 ∷ []) $
          facts ! R (Is R) (shows 𝓛 R) r (v ∷ []) (λ is. at_once ! $
          check ! (subst (λ (z : R.Denot). Is R z (v ∷ [])) e is) $ by ! back)))

-- ---- steps of a walk
module _ {M : Type 1} {𝓤 : Ura M} {𝓛 : Logic 𝓤} {K : Type 0} {Γ : List (Item 𝓤)}
    {E : Env 𝓤 𝓛.H} where
  -- entry n of the context is local i, and an operand reads it
  open 𝓛 use {H}

  pub reads : K → (n : ℕ) {i : ℕ} {q : Share} {v : Val}
      → nth 𝓛 n Γ ≡ ‵ (fat q (spot_of 𝓤 H E i).0 (spot_of 𝓤 H E i).1 (spot_of 𝓤 H E i).2 v)
      → Opd K 𝓛 Γ E (copy (place i [])) v
  reads t n e = load t (from t (stop t)) (look t n e)

  module _ {C : Calls 𝓤 H} {Λ : Loops 𝓤 H} {q : Post 𝓤 H} where
    -- a call that gives x, with what is held at the head of the context
    module _ {f : Callee} {xs : List Operand} {d : Place} where
      pub calls-held : K → FmC 𝓤 H 𝓛.laws C → {rest : Body} {Held : SProp 𝓤} (R : RattleType) (x : R.Denot)
          (vs : List Val) → ent 𝓤 Held (C f vs (Gives 𝓤 H Held R x)) → Opds K 𝓛 (raw Held ∷ Γ) E xs vs
          → ((v : Val) → Is R x (v ∷ []) → Seq K 𝓛 (raw Held ∷ Γ) (lands C Λ E d v rest q))
          → Seq K 𝓛 (raw Held ∷ Γ) (runs C Λ E (seq (call f xs d) rest) q)
      calls-held t fm {Held = Held} R x vs given-x os k =
          calls_from t fm (raw Held) vs (Gives 𝓤 H Held R x) given-x os (λ v.
          use1 𝓛 (later (given (Is R x (v ∷ [])) (raw Held))) (id⊢ 𝓤 _) $ await t tt $ learn t (λ is. k v is))

      -- the same of the last statement of a turn
      pub calls-held-last : K → FmC 𝓤 H 𝓛.laws C → {Held : SProp 𝓤} (R : RattleType) (x : R.Denot)
          (vs : List Val) → ent 𝓤 Held (C f vs (Gives 𝓤 H Held R x)) → Opds K 𝓛 (raw Held ∷ Γ) E xs vs
          → ((v : Val) → Is R x (v ∷ []) → Seq K 𝓛 (raw Held ∷ Γ) (settles E d v q))
          → Seq K 𝓛 (raw Held ∷ Γ) (runs C Λ E (call f xs d) q)
      calls-held-last t fm {Held = Held} R x vs given-x os k =
          calls_from_last t fm (raw Held) vs (Gives 𝓤 H Held R x) given-x os (λ v.
          use1 𝓛 (later (given (Is R x (v ∷ [])) (raw Held))) (id⊢ 𝓤 _) $ await t tt $ learn t (λ is. k v is))

    -- the test of a `while`: it holds and the turn goes on, or it fails and the `exit` is taken
    pub tests : K → {c : Operand} {n : ℕ} {b : Body} {y : Bool} → Opd K 𝓛 Γ E c (vbool y)
        → (y ≡ true → Seq K 𝓛 Γ (runs C Λ E b q)) → (y ≡ false → Seq K 𝓛 Γ (prop (post 𝓤 H q (exits n))))
        → Seq K 𝓛 Γ (runs C Λ E (seq (cond c skip (exit n)) b) q)
    tests t {y = y} o more ends =
        first t $ branches t o (λ h. skips t $ record { prf = (more (is_true y h)).prf })
        (λ h. jumps t $ record { prf = (ends (is_false y h)).prf })
