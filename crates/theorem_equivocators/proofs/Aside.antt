-- Marks change nothing but themselves: each step of a call commutes with other marks. Assumes nothing.
use Prim.Native.Nat.{ℕ, ◌+◌, ◌-◌, ◌*◌}
use mathlib.Core.Path.{◌≡◌, refl, sym, ap, ◌∙◌}
use mathlib.Core.Logic.{inl, inr}
use mathlib.Core.Option.{Option, none, some}
use mathlib.Core.List.{List, [], ◌∷◌}
use mathlib.Core.Bool.{Bool, true, false, ◌&&◌, not, cond}
use lib.ListN.{length, take}
use lib.Dec.{eqb, ltb}
use Rattle.sha256.specs.Fips.{sha256}
use Rattle.apollo.specs.Size.{frame_size}
use Rattle.apollo.specs.declared.Replica.{Replica}
use Rattle.apollo.specs.declared.Marked.{Marked}
use Rattle.apollo.specs.Bytes.{same}
use Rattle.apollo.specs.Setup.{setup_of, leader}
use Rattle.apollo.specs.Frame.{round, height, frames_of, first_frame, whole_frames, blame_form, make_blame}
use Rattle.apollo.specs.Log.{attach}
use Rattle.apollo.specs.Masks.{bit, certified}
use Rattle.apollo.specs.Replica.{with_equivocators, leads, valid_own, valid_rounds, valid_marks, valid_record, valid_log, valid_replica, valid_masks}
use Rattle.apollo.specs.Enter.{State, state, Effect, commit_limit, commit, tipped, waiting, hearing, holding, entered, own_block, proposing, enter_round, settle}
use Rattle.apollo.specs.Judging.{judged_each}
use Rattle.apollo.specs.Outcome.{Outcome, refused, next_leader, taken, guarded}
use Rattle.apollo.specs.BlockRun.{last_of, judged_run}
use Rattle.apollo.specs.Branch.{first_uncertified, grown, adopting, placed, branched, branch_with}
use Rattle.apollo.specs.Blame.{one_set, any_fresh, hearing_all, heard, handing}
use Rattle.apollo.specs.Tick.{blaming, ticked, tick_with}
use Rattle.apollo.specs.Equivocation.{equivocation_with}
use Rattle.apollo.specs.Read.{read_call}
use Rattle.apollo.specs.Fetch.{fetch_call}
use Rattle.apollo.proofs.Masks.{bit_kept}
use Rattle.apollo.proofs.Equivocation.{Case, invalid_record, not_pair, faulty_frame, not_conflicting, leader_marked, by_case, case_is}
use Rattle.apollo.proofs.Tests.{by_cond}
use Rattle.theorem_agreement.specs.Run.{Act, branch, blame, blames, tick, equivocation, record_only, answer}
use Rattle.theorem_equivocators.specs.Marks.{Kept, remarked, remarked_outcome, SameButMarks, MarksAside}

-- a choice between images
across : {A B : Type 0} (f : A → B) (b : Bool) {x y : A} {x' y' : B} → x' ≡ f x → y' ≡ f y → cond b x' y' ≡ f (cond b x y)
across f true p q = p
across f false p q = q

module _ (m : ℕ) where
  abbrev other : State → State
  other c = remarked c m

  unfoldable other_effect : Effect → Effect
  other_effect e = record { state = other e.state; emitted = e.emitted }

  abbrev other_outcome : Outcome → Outcome
  other_outcome o = remarked_outcome o m

  module _ (entry : List ℕ) where
    enter_aside : (c : State) → enter_round sha256 entry (other c) ≡ other_effect (enter_round sha256 entry c)
    unfolding other_effect enter_round leads entered commit commit_limit proposing holding tipped own_block
    enter_aside c = across other_effect (leads c.replica) refl refl

    settle_aside : (c : State) (r : ℕ) → settle sha256 entry (other c) r ≡ other_effect (settle sha256 entry c r)
    unfolding other_effect settle waiting
    settle_aside c r =
        across other_effect (eqb r c.replica.round.0 && certified (setup_of c.replica) c.masks r)
        (enter_aside (waiting c (r + 1) c.replica.timer.0)) refl

    blaming_aside : (c : State) → blaming sha256 entry (other c) ≡ other_effect (blaming sha256 entry c)
    unfolding other_effect blaming waiting hearing
    blaming_aside c =
        ap (λ (e : Effect). record { state = e.state; emitted = make_blame sha256 c.replica.id c.replica.round.0 ∷ e.emitted })
        (settle_aside (hearing (waiting c c.replica.round.0 0) c.replica.round.0 c.replica.id) c.replica.round.0)

    ticked_aside : (c : State) → ticked sha256 entry (other c) ≡ other_effect (ticked sha256 entry c)
    unfolding other_effect ticked waiting
    ticked_aside c =
        across other_effect (eqb c.replica.timer.0 0) refl
        (across other_effect (eqb c.replica.timer.0 1) (blaming_aside c) refl)

    module _ (out : List ℕ) where
      taken_aside : (e d : Effect) → d ≡ other_effect e → taken d out ≡ other_outcome (taken e out)
      unfolding other_effect remarked_outcome taken next_leader
      taken_aside e d p = ap (λ x. taken x out) p

      refused_aside : (c : State) (k p : ℕ) → refused (other c) out k p ≡ other_outcome (refused c out k p)
      unfolding remarked_outcome refused
      refused_aside c k p = refl

      placed_aside : (c : State) (x : List ℕ) (xs : List (List ℕ)) (a : Option ℕ)
          → placed sha256 entry out (other c) x xs a ≡ other_outcome (placed sha256 entry out c x xs a)
      unfolding placed adopting holding tipped
      placed_aside c x xs none = refused_aside c 11 0
      placed_aside c x xs (some a) =
          let n : ℕ = frame_size * c.replica.committed_round.0 in
          across other_outcome (eqb (first_uncertified (setup_of c.replica) c.masks a (x ∷ xs)) 0)
          (across other_outcome (same (take n (grown c.log a (x ∷ xs))) (take n c.log))
          (taken_aside _ _ (enter_aside (holding c (grown c.log a (x ∷ xs)) (round (last_of x xs)) (height (last_of x xs)))))
          (refused_aside c 12 0)) (refused_aside c 13 _)

      branched_aside : (c : State) (xs : List (List ℕ))
          → branched sha256 entry out (other c) xs ≡ other_outcome (branched sha256 entry out c xs)
      unfolding branched
      branched_aside c [] = refused_aside c 6 0
      branched_aside c (x ∷ xs) =
          across other_outcome (eqb (judged_run sha256 (setup_of c.replica) 0 none (x ∷ xs)).number 0)
          (across other_outcome (ltb (round (last_of x xs)) c.replica.round.0) (refused_aside c 10 0)
          (placed_aside c x xs (attach c.log x (round x - 1)))) (refused_aside c _ _)

      heard_aside : (c : State) (xs : List (List ℕ)) → heard sha256 entry out (other c) xs ≡ other_outcome (heard sha256 entry out c xs)
      unfolding heard hearing_all
      heard_aside c [] = refused_aside c 6 0
      heard_aside c (x ∷ xs) =
          across other_outcome (eqb (judged_each sha256 (blame_form (setup_of c.replica)) 0 (x ∷ xs)).number 0)
          (across other_outcome (one_set (round x) 0 (x ∷ xs))
          (across other_outcome (ltb c.replica.round.0 (round x)) (refused_aside c 14 0)
          (across other_outcome (any_fresh c.masks (x ∷ xs)) (taken_aside _ _ (settle_aside (hearing_all c (x ∷ xs)) (round x)))
          (refused_aside c 10 0))) (refused_aside c 16 0)) (refused_aside c _ _)

-- refusals 2 to 5, before what a call answers otherwise
module _ (c : State) (m : ℕ) (entry out : List ℕ) (o p : Outcome) (e : p ≡ remarked_outcome o m) where
  guarded_aside : valid_replica (with_equivocators c.replica m) c.log ≡ valid_replica c.replica c.log
      → guarded (remarked c m) entry out p ≡ remarked_outcome (guarded c entry out o) m
  unfolding guarded
  guarded_aside v =
      ap
      (λ (b : Bool). cond (not (b && valid_masks c.replica c.masks)) (refused (remarked c m) out 2 0)
      (cond (eqb c.replica.round.0 (c.replica.last_round.0 + 1)) (refused (remarked c m) out 3 0)
      (cond (ltb (length out) 1024) (refused (remarked c m) out 4 0)
      (cond (ltb 400 (length entry)) (refused (remarked c m) out 5 0) p)))) v
      ∙ across f (not (valid_replica c.replica c.log && valid_masks c.replica c.masks)) (refused_aside m entry out c 2 0)
      (across f (eqb c.replica.round.0 (c.replica.last_round.0 + 1)) (refused_aside m entry out c 3 0)
      (across f (ltb (length out) 1024) (refused_aside m entry out c 4 0)
      (across f (ltb 400 (length entry)) (refused_aside m entry out c 5 0) e)))
    where
      f : Outcome → Outcome
      f q = remarked_outcome q m

-- the marks that stood are left, where what the call answers otherwise leaves them
guarded_kept : (c : State) (entry out : List ℕ) (o : Outcome) → o ≡ remarked_outcome o c.replica.equivocators
    → (guarded c entry out o).answer.replica.equivocators ≡ c.replica.equivocators
unfolding guarded refused remarked_outcome
guarded_kept c entry out o e =
    by_cond Keeps (not (valid_replica c.replica c.log && valid_masks c.replica c.masks)) (λ _. refl)
    (λ _. by_cond Keeps (eqb c.replica.round.0 (c.replica.last_round.0 + 1)) (λ _. refl)
    (λ _. by_cond Keeps (ltb (length out) 1024) (λ _. refl)
    (λ _. by_cond Keeps (ltb 400 (length entry)) (λ _. refl) (λ _. ap (λ (q : Outcome). q.answer.replica.equivocators) e))))
  where
    Keeps : Outcome → Type 0
    Keeps q = q.answer.replica.equivocators ≡ c.replica.equivocators

record_aside : (r : Replica) (m : ℕ) → valid_marks r ≡ true → valid_marks (with_equivocators r m) ≡ true
    → valid_record (with_equivocators r m) ≡ valid_record r
unfolding valid_record valid_own valid_rounds leads
record_aside r m e d = rw (d, e)

valid_aside : (r : Replica) (log : List ℕ) (m : ℕ) → valid_marks r ≡ true → valid_marks (with_equivocators r m) ≡ true
    → valid_replica (with_equivocators r m) log ≡ valid_replica r log
unfolding valid_replica
valid_aside r log m e d = ap (λ (b : Bool). b && valid_log r log) (record_aside r m e d)

-- what a call answers behind refusals 2 to 5
module _ (c : State) (m : ℕ) where
  whole_aside : (b : Bool) (out : List ℕ) (o p : Outcome) → p ≡ remarked_outcome o m
      → cond b p (refused (remarked c m) out 6 0) ≡ remarked_outcome (cond b o (refused c out 6 0)) m
  whole_aside b out o p e = across (λ q. remarked_outcome q m) b e (refused_aside m [] out c 6 0)

  -- a tick, a branch, and blames
  module _ (entry out : List ℕ) where
    tick_aside : taken (ticked sha256 entry (remarked c m)) out ≡ remarked_outcome (taken (ticked sha256 entry c) out) m
    tick_aside = taken_aside m entry out _ _ (ticked_aside m entry c)

    branch_aside : (bytes : List ℕ)
        → cond (whole_frames c.replica.last_round.0 bytes) (branched sha256 entry out (remarked c m) (frames_of bytes))
        (refused (remarked c m) out 6 0)
        ≡ remarked_outcome
        (cond (whole_frames c.replica.last_round.0 bytes) (branched sha256 entry out c (frames_of bytes)) (refused c out 6 0)) m
    branch_aside bytes =
        whole_aside (whole_frames c.replica.last_round.0 bytes) out _ _ (branched_aside m entry out c (frames_of bytes))

    blames_aside : (most : ℕ) (bytes : List ℕ)
        → cond (whole_frames most bytes) (heard sha256 entry out (remarked c m) (frames_of bytes)) (refused (remarked c m) out 6 0)
        ≡ remarked_outcome (cond (whole_frames most bytes) (heard sha256 entry out c (frames_of bytes)) (refused c out 6 0)) m
    blames_aside most bytes = whole_aside (whole_frames most bytes) out _ _ (heard_aside m entry out c (frames_of bytes))

-- two outcomes of which the one is the other with marks
same_marks : (o p : Outcome) (m : ℕ) → p ≡ remarked_outcome o m → SameButMarks p o
unfolding remarked_outcome
same_marks o p m e = ap (λ q. remarked_outcome q 0) e

-- the call equivocation: what it answers but for the marks is by the frames and the set-up
module _ (c : State) (m : ℕ) where
  abbrev bare : Marked → Outcome
  bare a = remarked_outcome (record_only c a) 0

  equivocation_aside : valid_record (with_equivocators c.replica m) ≡ valid_record c.replica → (bytes : List ℕ)
      → bare (equivocation_with sha256 (with_equivocators c.replica m) bytes) ≡ bare (equivocation_with sha256 c.replica bytes)
  unfolding record_only remarked_outcome
  equivocation_aside same bytes = go _ (by_case sha256 c.replica bytes)
    where
      is : (a : Marked) → Case sha256 (with_equivocators c.replica m) bytes a
          → bare (equivocation_with sha256 (with_equivocators c.replica m) bytes) ≡ bare a
      is a k = ap bare (sym (case_is sha256 (with_equivocators c.replica m) bytes a k))

      go : (a : Marked) → Case sha256 c.replica bytes a
          → bare (equivocation_with sha256 (with_equivocators c.replica m) bytes) ≡ bare a
      go a (invalid_record v) = is _ (invalid_record (same ∙ v))
      go a (not_pair v p) = is _ (not_pair (same ∙ v) p)
      go a (faulty_frame v p j) = is _ (faulty_frame (same ∙ v) p j)
      go a (not_conflicting v p j d) = is _ (not_conflicting (same ∙ v) p j d)
      go a (leader_marked v p j d) = is _ (leader_marked (same ∙ v) p j d)

calls_aside : (c : State) (m : ℕ) → valid_marks c.replica ≡ true → valid_marks (with_equivocators c.replica m) ≡ true → (a : Act)
    → SameButMarks (answer (remarked c m) a) (answer c a)
unfolding answer branch_with handing tick_with
calls_aside c m e d (branch bytes entry out) =
    same_marks _ _ m (guarded_aside c m entry out _ _ (branch_aside c m entry out bytes) (valid_aside c.replica c.log m e d))
calls_aside c m e d (blame bytes entry out) =
    same_marks _ _ m (guarded_aside c m entry out _ _ (blames_aside c m entry out 1 bytes) (valid_aside c.replica c.log m e d))
calls_aside c m e d (blames bytes entry out) =
    same_marks _ _ m (guarded_aside c m entry out _ _ (blames_aside c m entry out 15 bytes) (valid_aside c.replica c.log m e d))
calls_aside c m e d (tick entry out) =
    same_marks _ _ m (guarded_aside c m entry out _ _ (tick_aside c m entry out) (valid_aside c.replica c.log m e d))
calls_aside c m e d (equivocation bytes) = unfold record_only in equivocation_aside c m (record_aside c.replica m e d) bytes

pub marks_aside : MarksAside
unfolding read_call fetch_call
marks_aside r log m e d =
    record {
      calls = λ masks. calls_aside (state r log masks) m e d;
      reads = λ h. rw (valid_aside r log m e d);
      fetches = λ h out. rw (valid_aside r log m e d);
    }

-- equivocation sets a mark, or leaves all as they are
equivocation_kept : (r : Replica) (bytes : List ℕ) (k : ℕ) → bit k r.equivocators ≡ true
    → bit k (equivocation_with sha256 r bytes).replica.equivocators ≡ true
equivocation_kept r bytes k e = go _ (by_case sha256 r bytes)
  where
    go : (a : Marked) → Case sha256 r bytes a → bit k a.replica.equivocators ≡ true
    go a (invalid_record v) = e
    go a (not_pair v p) = e
    go a (faulty_frame v p j) = e
    go a (not_conflicting v p j d) = e
    go a (leader_marked v p j d) = bit_kept (leader (setup_of r) (round (first_frame bytes))) k r.equivocators e

pub kept : Kept
unfolding answer branch_with handing tick_with record_only
kept c (branch bytes entry out) = inl (guarded_kept c entry out _ (branch_aside c c.replica.equivocators entry out bytes))
kept c (blame bytes entry out) = inl (guarded_kept c entry out _ (blames_aside c c.replica.equivocators entry out 1 bytes))
kept c (blames bytes entry out) = inl (guarded_kept c entry out _ (blames_aside c c.replica.equivocators entry out 15 bytes))
kept c (tick entry out) = inl (guarded_kept c entry out _ (tick_aside c c.replica.equivocators entry out))
kept c (equivocation bytes) = inr (bytes, refl, equivocation_kept c.replica bytes)
