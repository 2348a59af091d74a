-- Definitions. Every definition on the way from an input's bytes to its line and its looks: what unfolds `definitions` unfolds them all.
use Rattle.std.specs.Float.Ieee.{fits, round, add, sub, mul, div, lt, le, eq, ne, neg, of_bits, to_bits, of_int, to_signed, is_nan}
use Rattle.number.specs.Number.{min_of, max_of, clamp_of, abs_of, signum_of, within_of}
use Rattle.root.specs.Root.{hypot_of}
use Rattle.exponential.specs.Exp.{exp_of}
use Rattle.trigonometry.specs.Trig.{cosine_of, sine_of, arctangent_of}
use Rattle.vector.specs.Vec.{vadd, vsub, vscale, vdivs, vdot, vcross, vlength_squared, vlength, vnormalize, vnormalize_or_zero, same_vec}
use Rattle.surface.specs.Surface.{penner, coefficient_at, speed_factor, rolling_friction, penner_theta_c, penner_ref_angle, tilted_angle, contact_angle}
use Rattle.aero.specs.Aero.{radius_of, area_of, cd_cl_of, from_spin_vector, magnus_of, acceleration_of}
use Rattle.rk4.specs.Rk4.{moved_in, weighted_in, moved, step_of, add_scaled, step_state_of}
use Rattle.flight.specs.Flight.{accel_of}
use Rattle.impact.specs.Impact.{unit_or_zero, effective_normal, friction_impulse, pivoted, struck, impact_of}
use Rattle.contact.specs.Contact.{tangent, slip_of, locked_of, saturated, tangential_gravity, relocked, onto_of, holds_at_rest, sample_holds, returned_by, spin_inertia, energy_of, hops_die_out}
use Rattle.flight.specs.Arc.{hermite_pos, hermite_vel, hermite_of, parabola_of, drop_time}
use Rattle.search.specs.Search.{inside, start, in_bracket, halved_if, replaced, chord, next_try, onward, narrowed, root_from, find_root}
use Rattle.slide.specs.Slide.{slide_accel, slide_spin_accel, slide_rate, fixed_rate, slide_fixed, patch_slip, turning_rate, slide_turning, slip_speed, slip_decay, slip_rate, time_to_roll, finish_of, above_of, guess_of, finish_from, slide_to_threshold, slide_on_slope, slide_of}
use Rattle.rolling.specs.ContactStep.{pivot_accel, patch_of, slid_to, slide_step, roll_patch_of, decel_of, heading_of, stops_of, stop_time, rest_pos, rest_spin, rest_of, resistance_of, roll_rate, roll_by, rolled_spin, roll_on, roll_step, contact_step_of}
use Rattle.state.specs.State.{coord_ok}
use Rattle.look.specs.Rect.{spot_ok, lesser, greater, widen, no_rect}
use Rattle.look.specs.Tree.{bind, looks, exec}
use Rattle.octets.specs.Octets.{little}
use Rattle.course.specs.Sheet.{header_ok, restitution_ok, law_ok, surface_ok, edges_ok, patch_ok, all, answer_of, first, covers, restitution_of, law_of, surface_of, patch_sample, plain_sample, course_of}
use Rattle.records.specs.Records.{flat, shown, pushed}
use Rattle.shot.specs.Physics.{physics_new}
use Rattle.tally.specs.Times.{has_come, next_after}
use Rattle.state.specs.State.{vec_ok, state_ok}
use Rattle.tally.specs.Language.{◌>>=◌, when, make_step, count_evaluation, look, test, put_point, push_point, push_contact, mark, truncate, steps_left, loop}
use Rattle.arrival.specs.Arrival.{arc_of, clearance, clearance_at, advanced, at_start, sub_step, crossing_from, first_crossing, end_value, guess_in, ending_at, crossing_time, placed, hop_arrival}
use Rattle.hop.specs.Hop.{fade_factor, spin_after, aero_for, step_arc, step_end, hop_next, hop_step, hop_from, hop}
use Rattle.state.specs.Numbers.{whole_phase}
use Rattle.roll.specs.Roll.{step_on, point_due, held_of, put_down, ground_step}
use Rattle.ground_phase.specs.GroundPhase.{last_phase, time_up, ground_from, ground}
use Rattle.strike.specs.Strike.{strike, rebounds, dies_out, fly_by, dropped, drop}
use Rattle.train.specs.Train.{last_impact, to_ground, train_from_by, train}
use Rattle.shot.specs.Tests.{step_physics_ok, physics_ok, ball_ok, density_ok, vec_about, landing_ok, input_test}
use Rattle.ground.specs.Tests.{wholes, refusal_of}
use Rattle.ground.specs.Settle.{report_of, conditions_of, run_of, settle_of, looks_of}
use Rattle.input.specs.Input.{real_at, vec_at, physics_at, ball_at, landing_at, shot_by, settle_input_by, program_of}
use Rattle.text.specs.Text.{decimal_in, decimal_of, word_of}
use Rattle.line.specs.Line.{termination_of, counts_of, shown_of}

unfoldable pub definitions : Unit {0}
unfolding fits round add sub mul div lt le eq ne neg of_bits to_bits of_int to_signed is_nan min_of max_of clamp_of abs_of signum_of within_of hypot_of exp_of cosine_of sine_of arctangent_of vadd vsub vscale vdivs vdot vcross vlength_squared vlength vnormalize vnormalize_or_zero same_vec penner coefficient_at speed_factor rolling_friction penner_theta_c penner_ref_angle tilted_angle contact_angle radius_of area_of cd_cl_of from_spin_vector magnus_of acceleration_of moved_in weighted_in moved step_of add_scaled step_state_of accel_of unit_or_zero effective_normal friction_impulse pivoted struck impact_of tangent slip_of locked_of saturated tangential_gravity relocked onto_of holds_at_rest sample_holds returned_by spin_inertia energy_of hops_die_out hermite_pos hermite_vel hermite_of parabola_of drop_time inside start in_bracket halved_if replaced chord next_try onward narrowed root_from find_root slide_accel slide_spin_accel slide_rate fixed_rate slide_fixed patch_slip turning_rate slide_turning slip_speed slip_decay slip_rate time_to_roll finish_of above_of guess_of finish_from slide_to_threshold slide_on_slope slide_of pivot_accel patch_of slid_to slide_step roll_patch_of decel_of heading_of stops_of stop_time rest_pos rest_spin rest_of resistance_of roll_rate roll_by rolled_spin roll_on roll_step contact_step_of coord_ok spot_ok lesser greater widen no_rect bind looks exec little header_ok restitution_ok law_ok surface_ok edges_ok patch_ok all answer_of first covers restitution_of law_of surface_of patch_sample plain_sample course_of flat shown pushed physics_new has_come next_after ◌>>=◌ when vec_ok state_ok make_step count_evaluation look test put_point push_point push_contact mark truncate steps_left loop arc_of clearance clearance_at advanced at_start sub_step crossing_from first_crossing end_value guess_in ending_at crossing_time placed hop_arrival fade_factor spin_after aero_for step_arc step_end hop_next hop_step hop_from hop step_on whole_phase point_due held_of put_down ground_step last_phase time_up last_impact strike rebounds dies_out fly_by dropped drop ground_from ground to_ground train_from_by train step_physics_ok physics_ok ball_ok density_ok vec_about landing_ok wholes input_test refusal_of report_of conditions_of run_of settle_of looks_of real_at vec_at physics_at ball_at landing_at shot_by settle_input_by decimal_in decimal_of termination_of counts_of shown_of program_of word_of
definitions = tt
