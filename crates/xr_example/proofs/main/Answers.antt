use Rattle.std.proofs.Common.{refl, arith}
use Rattle.xr_runtime.specs.Passes.{table_of}
use Rattle.xr_example.proofs.Passes.{may, first, next}
use Rattle.xr_example.proofs.main.Goals as goal

pub create_instance-instance-requires : goal.create_instance-instance-requires
create_instance-instance-requires g c =
    let started = c.in-Ok.ensures.started in
    let none = first (table_of c.in-Ok.runtime) c.in-Ok.passes.apps.items c.pop.new.self.items c.in-Some.app c.in-Some.ensures.items started.count started.passes in
    record { may = may (table_of c.in-Ok.runtime) 0 c.in-Some.app (omega arith) none }

pub get_system-system-requires : goal.get_system-system-requires
get_system-system-requires g c =
    let started = c.in-Ok.ensures.started in
    let none = first (table_of c.in-Ok.runtime) c.in-Ok.passes.apps.items c.pop.new.self.items c.in-Some.app c.in-Some.ensures.items started.count started.passes in
    let one = next (table_of c.in-Ok.runtime) 0 _ _ _ _ refl none c.create_instance-instance.ensures.called in
    record { may = may (table_of c.in-Ok.runtime) 1 _ (omega arith) one }

pub create_session-session-requires : goal.create_session-session-requires
create_session-session-requires g c =
    let started = c.in-Ok.ensures.started in
    let none = first (table_of c.in-Ok.runtime) c.in-Ok.passes.apps.items c.pop.new.self.items c.in-Some.app c.in-Some.ensures.items started.count started.passes in
    let one = next (table_of c.in-Ok.runtime) 0 _ _ _ _ refl none c.create_instance-instance.ensures.called in
    let two = next (table_of c.in-Ok.runtime) 1 _ _ _ _ refl one c.get_system-system.ensures.called in
    record { may = may (table_of c.in-Ok.runtime) 2 _ (omega arith) two }

pub begin_session-begun-requires : goal.begin_session-begun-requires
begin_session-begun-requires g c =
    let started = c.in-Ok.ensures.started in
    let none = first (table_of c.in-Ok.runtime) c.in-Ok.passes.apps.items c.pop.new.self.items c.in-Some.app c.in-Some.ensures.items started.count started.passes in
    let one = next (table_of c.in-Ok.runtime) 0 _ _ _ _ refl none c.create_instance-instance.ensures.called in
    let two = next (table_of c.in-Ok.runtime) 1 _ _ _ _ refl one c.get_system-system.ensures.called in
    let three = next (table_of c.in-Ok.runtime) 2 _ _ _ _ refl two c.create_session-session.ensures.called in
    record { may = may (table_of c.in-Ok.runtime) 3 _ (omega arith) three }
