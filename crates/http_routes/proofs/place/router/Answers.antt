use Rattle.matchit.proofs.OnLiterals.{matchit_on_literals}
use Rattle.http_routes.proofs.place.router.Goals as goal

pub returns : goal.returns
unfolding matchit_on_literals
returns c =
    let r1 = rw c.new-router.ensures at c.in_ok-insert.ensures in
    let r2 = rw r1.1 at c.in_ok-insert-2.ensures in
    let r3 = rw r2.1 at c.in_ok-insert-3.ensures in
    let r4 = rw r3.1 at c.in_ok-insert-4.ensures in
    let r5 = rw r4.1 at c.in_ok-insert-5.ensures in
    let r6 = rw r5.1 at c.in_ok-insert-6.ensures in
    let r7 = rw r6.1 at c.in_ok-insert-7.ensures in
    let r8 = rw r7.1 at c.in_ok-insert-8.ensures in
    let r9 = rw r8.1 at c.in_ok-insert-9.ensures in
    let r10 = rw r9.1 at c.in_ok-insert-10.ensures in
    let r11 = rw r10.1 at c.in_ok-insert-11.ensures in
    let r12 = rw r11.1 at c.in_ok-insert-12.ensures in
    let r13 = rw r12.1 at c.in_ok-insert-13.ensures in
    let r14 = rw r13.1 at c.in_ok-insert-14.ensures in
    let r15 = rw r14.1 at c.in_ok-insert-15.ensures in
    let r16 = rw r15.1 at c.in_ok-insert-16.ensures in
    let r17 = rw r16.1 at c.in_ok-insert-17.ensures in
    r17.1
