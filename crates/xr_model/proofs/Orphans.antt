-- No live handle is without its parent after any history.
use Rattle.std.proofs.Common.{◌≡◌, ℕ, ◌==◌, not, true, List, [], ◌∷◌, refl}
use Rattle.xr_types.specs.declared.handles.Kind.TheVariants.{Instance, Session, ActionSet, Action, Space, Swapchain}
use Rattle.xr_types.specs.declared.handles.Slot.{Slot}
use Rattle.xr_model.specs.machine.Calls.{Entry}
use Rattle.xr_model.specs.machine.Handles.{Handles, is_live, has, with_handle, going, destroyed_instances, destroyed_parents, without, without_alone}
use Rattle.xr_model.specs.machine.State.{State, opening}
use Rattle.xr_model.specs.machine.Machine.{step, reads_of}
use Rattle.xr_model.specs.machine.History.{after}
use Rattle.xr_model.specs.laws.HandleLaws.{AreUnder, NoOrphans}
use Rattle.xr_model.proofs.Rows.{both_of, or_true, in_none, has_put, under_put, under_more, row_under, cleared_under}
use Rattle.xr_model.proofs.HandleSteps.{kept_by_step}

-- what is live without a handle and all below it
pub without_under : (h : Handles) (handle : ℕ) → AreUnder h → AreUnder (without h handle)
without_under h handle u = record {
  sessions = cleared_under handle [] instances h.instances h.sessions (λ p e. e) u.sessions;
  sets = cleared_under handle [] instances h.instances h.sets (λ p e. e) u.sets;
  actions = cleared_under handle instances parents h.sets h.actions (λ p e. (in_none (λ g. g == p) instances sessions sets e).2) u.actions;
  spaces = cleared_under handle instances parents h.sessions h.spaces (λ p e. (in_none (λ g. g == p) instances sessions sets e).1) u.spaces;
  chains = cleared_under handle instances parents h.sessions h.chains (λ p e. (in_none (λ g. g == p) instances sessions sets e).1) u.chains;
}
  where
    instances : List ℕ
    instances = destroyed_instances h handle

    parents : List ℕ
    parents = destroyed_parents h handle

    sessions : List ℕ
    sessions = going handle (destroyed_instances h handle) h.sessions

    sets : List ℕ
    sets = going handle (destroyed_instances h handle) h.sets

-- what is live without one space
alone_under : (h : Handles) (space : ℕ) → AreUnder h → AreUnder (without_alone h Space space)
alone_under h space u = record {
  sessions = u.sessions;
  sets = u.sets;
  actions = u.actions;
  spaces = row_under space [] h.sessions h.spaces u.spaces;
  chains = u.chains;
}

-- what is live without one swapchain
chain_alone_under : (h : Handles) (chain : ℕ) → AreUnder h → AreUnder (without_alone h Swapchain chain)
chain_alone_under h chain u = record {
  sessions = u.sessions;
  sets = u.sets;
  actions = u.actions;
  spaces = u.spaces;
  chains = row_under chain [] h.sessions h.chains u.chains;
}

-- with an instance more
instance_under : (h : Handles) (given : ℕ) → AreUnder h → AreUnder (with_handle h Instance 0 given)
instance_under h given u = record {
  sessions = under_more h.instances _ (has_put new h.instances) h.sessions u.sessions;
  sets = under_more h.instances _ (has_put new h.instances) h.sets u.sets;
  actions = u.actions;
  spaces = u.spaces;
  chains = u.chains;
}
  where
    new : Slot
    new = record { handle = given; parent = 0 }

-- with a session more, of a live instance
session_under : (h : Handles) (instance given : ℕ) → is_live h Instance instance ≡ true → AreUnder h → AreUnder (with_handle h Session instance given)
session_under h instance given live u =
    let parts = both_of (not (instance == 0)) (has h.instances instance) live in
    record {
      sessions = under_put new h.sessions h.instances u.sessions (rw (parts.0, parts.1) (or_true (given == 0)));
      sets = u.sets;
      actions = u.actions;
      spaces = under_more h.sessions _ (has_put new h.sessions) h.spaces u.spaces;
      chains = under_more h.sessions _ (has_put new h.sessions) h.chains u.chains;
    }
  where
    new : Slot
    new = record { handle = given; parent = instance }

-- with an action set more, of a live instance
set_under : (h : Handles) (instance given : ℕ) → is_live h Instance instance ≡ true → AreUnder h → AreUnder (with_handle h ActionSet instance given)
set_under h instance given live u =
    let parts = both_of (not (instance == 0)) (has h.instances instance) live in
    record {
      sessions = u.sessions;
      sets = under_put new h.sets h.instances u.sets (rw (parts.0, parts.1) (or_true (given == 0)));
      actions = under_more h.sets _ (has_put new h.sets) h.actions u.actions;
      spaces = u.spaces;
      chains = u.chains;
    }
  where
    new : Slot
    new = record { handle = given; parent = instance }

-- with an action more, of a live action set
action_under : (h : Handles) (set given : ℕ) → is_live h ActionSet set ≡ true → AreUnder h → AreUnder (with_handle h Action set given)
action_under h set given live u =
    let parts = both_of (not (set == 0)) (has h.sets set) live in
    record {
      sessions = u.sessions;
      sets = u.sets;
      actions = under_put (record { handle = given; parent = set }) h.actions h.sets u.actions (rw (parts.0, parts.1) (or_true (given == 0)));
      spaces = u.spaces;
      chains = u.chains;
    }

-- with a space more, of a live session
space_under : (h : Handles) (session given : ℕ) → is_live h Session session ≡ true → AreUnder h → AreUnder (with_handle h Space session given)
space_under h session given live u =
    let parts = both_of (not (session == 0)) (has h.sessions session) live in
    record {
      sessions = u.sessions;
      sets = u.sets;
      actions = u.actions;
      spaces = under_put (record { handle = given; parent = session }) h.spaces h.sessions u.spaces (rw (parts.0, parts.1) (or_true (given == 0)));
      chains = u.chains;
    }

-- with a swapchain more, of a live session
chain_under : (h : Handles) (session given : ℕ) → is_live h Session session ≡ true → AreUnder h → AreUnder (with_handle h Swapchain session given)
chain_under h session given live u =
    let parts = both_of (not (session == 0)) (has h.sessions session) live in
    record {
      sessions = u.sessions;
      sets = u.sets;
      actions = u.actions;
      spaces = u.spaces;
      chains = under_put (record { handle = given; parent = session }) h.chains h.sessions u.chains (rw (parts.0, parts.1) (or_true (given == 0)));
    }

pub under_step : (s : State) (e : Entry) → AreUnder s.core.handles → AreUnder (step s e).0.core.handles
under_step s e u = kept_by_step (λ h. AreUnder h) s.core (reads_of s e.call) e (record {
  same = u;
  instance = λ gives. instance_under s.core.handles e.given u;
  session = λ gives instance live. session_under s.core.handles instance e.given live u;
  set = λ gives instance live. set_under s.core.handles instance e.given live u;
  action = λ gives set live. action_under s.core.handles set e.given live u;
  space = λ gives session live. space_under s.core.handles session e.given live u;
  chain = λ is gives session live. chain_under s.core.handles session e.given live u;
  without = λ handle. without_under s.core.handles handle u;
  alone = λ space. alone_under s.core.handles space u;
  chain_alone = λ chain. chain_alone_under s.core.handles chain u;
})

under_after : (s : State) (es : List Entry) → AreUnder s.core.handles → AreUnder (after s es).core.handles
under_after s [] u = u
under_after s (e ∷ es) u = under_after (step s e).0 es (under_step s e u)

pub no_orphans : NoOrphans
no_orphans settings es = under_after (opening settings) es (record { sessions = refl; sets = refl; actions = refl; spaces = refl; chains = refl })
